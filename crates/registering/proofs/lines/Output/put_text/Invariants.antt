use Rattle.std.proofs.Common.{◌-◌, length}
use Rattle.registering.proofs.lines.Output.put_text.Given as goal

abbrev pub invariant-loop-i : goal.invariant-loop-i
invariant-loop-i g l = Unit {0}

abbrev pub decreases-loop-i : goal.decreases-loop-i
decreases-loop-i g l = length l.text - l.i
