use Rattle.refusal.proofs.Choose.{Choosing}
use Rattle.handlers.specs.Handlers.{pair_at, nothing}
use Rattle.handlers.proofs.pairs_at.Given as goal

abbrev pub invariant-loop-i : goal.invariant-loop-i
invariant-loop-i l = Choosing (pair_at l.s l.j) l.count l.from nothing l.k l.p l.i l.kept
