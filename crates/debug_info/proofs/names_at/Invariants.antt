use Rattle.debug_info.proofs.Laws.{Names}
use Rattle.debug_info.proofs.names_at.Given as goal

abbrev pub invariant-loop-i : goal.invariant-loop-i
invariant-loop-i l = Names l.s l.strings l.item l.from l.count l.k l.p l.i l.kept
