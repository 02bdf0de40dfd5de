use Rattle.access_flags.proofs.Laws.{Counting}
use Rattle.access_flags.proofs.count_of.Given as goal

abbrev pub invariant-loop-i : goal.invariant-loop-i
invariant-loop-i l = Counting l.class l.value l.n l.i l.v
