use Rattle.class_walk.proofs.Laws.{Going}
use Rattle.class_walk.proofs.methods_pass.Given as goal

abbrev pub invariant-loop : goal.invariant-loop
invariant-loop l = Going l.s l.frame l.item l.from l.count l.counter l.p l.base l.later
