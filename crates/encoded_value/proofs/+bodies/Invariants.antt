use Rattle.std.proofs.Common.{◌+◌, ◌*◌}
use Rattle.encoded_value.proofs.Cycle.{Values}
use Rattle.encoded_value.proofs.+bodies.Given as goal

abbrev pub decreases-annotation_body : goal.decreases-annotation_body
decreases-annotation_body l = 5 * l.left + 1

abbrev pub decreases-array_body : goal.decreases-array_body
decreases-array_body l = 5 * l.left + 1

abbrev pub decreases-body_past : goal.decreases-body_past
decreases-body_past l = 5 * l.left

abbrev pub decreases-inside_past : goal.decreases-inside_past
decreases-inside_past l = 5 * l.left + 3

abbrev pub decreases-opened_past : goal.decreases-opened_past
decreases-opened_past l = 5 * l.left + 2

abbrev pub decreases-values_past : goal.decreases-values_past
decreases-values_past l = 5 * l.left + 4

abbrev pub invariant-values_past-loop : goal.invariant-values_past-loop
invariant-values_past-loop l = Values l.s l.w l.named l.left l.from l.count l.counter l.p
