use Rattle.annotation_lists.specs.Offsets.{offset_at}
use Rattle.annotation_lists.proofs.Fixed.{Along}
use Rattle.annotation_lists.proofs.offsets_pass.Given as goal

abbrev pub invariant-loop : goal.invariant-loop
invariant-loop l = Along (offset_at l.s l.frame l.item l.absent l.four) l.s 4 l.from l.count l.counter l.at
