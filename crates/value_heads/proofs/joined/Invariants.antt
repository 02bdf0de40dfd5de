use Rattle.value_heads.proofs.Numbers.{Joining}
use Rattle.value_heads.proofs.joined.Given as goal

abbrev pub invariant-loop-i : goal.invariant-loop-i
invariant-loop-i l = Joining l.s l.at l.n l.i l.sum
