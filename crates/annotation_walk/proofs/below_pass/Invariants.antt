use Rattle.annotation_walk.specs.Below.{one_from}
use Rattle.annotation_lists.proofs.Fixed.{Along}
use Rattle.annotation_walk.proofs.below_pass.Given as goal

abbrev pub invariant-loop : goal.invariant-loop
invariant-loop l = Along (one_from l.s l.frame l.parameter) l.s 8 l.from l.count l.counter l.at
