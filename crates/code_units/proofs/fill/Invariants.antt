use Rattle.code_units.proofs.Laws.{Filling}
use Rattle.code_units.proofs.fill.Given as goal

abbrev pub invariant-loop-i : goal.invariant-loop-i
invariant-loop-i l = Filling l.order l.s l.start l.count l.initial.out l.out l.p l.i
