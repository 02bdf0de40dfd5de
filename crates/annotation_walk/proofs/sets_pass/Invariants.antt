use Rattle.annotation_walk.specs.Below.{set_from}
use Rattle.annotation_lists.proofs.Fixed.{Along}
use Rattle.annotation_walk.proofs.sets_pass.Given as goal

abbrev pub invariant-loop : goal.invariant-loop
invariant-loop l = Along (set_from l.s l.frame) l.s 4 l.from l.count l.counter l.at
