use Rattle.code_bodies.proofs.Laws.{Trying}
use Rattle.code_bodies.proofs.tries_found.Given as goal

abbrev pub invariant-loop-i : goal.invariant-loop-i
invariant-loop-i l = Trying l.order l.s l.units l.item l.from l.count l.k l.place l.floor l.i l.kept
