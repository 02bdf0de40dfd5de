use Rattle.std.proofs.Common.{◌+◌, ◌-◌, ◌*◌, ◌≤◌}
use Rattle.registering.proofs.values.write_open.Given as goal

abbrev pub invariant-loop-depth : goal.invariant-loop-depth
invariant-loop-depth g l = l.depth ≤ 64

abbrev pub decreases-loop-depth : goal.decreases-loop-depth
decreases-loop-depth g l = 65 * (l.end - l.p) + l.depth
