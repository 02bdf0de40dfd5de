use Rattle.access_flags.proofs.Laws.{Filling}
use Rattle.access_flags.proofs.fill.Given as goal

abbrev pub invariant-loop-i : goal.invariant-loop-i
invariant-loop-i l = Filling l.class l.value l.initial.out l.out l.p l.i l.v
