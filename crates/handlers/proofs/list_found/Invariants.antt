use Rattle.handlers.proofs.Laws.{Listing}
use Rattle.handlers.proofs.list_found.Given as goal

abbrev pub invariant-loop-i : goal.invariant-loop-i
invariant-loop-i l = Listing l.s l.j l.from l.count l.h l.k l.p l.i l.kept
