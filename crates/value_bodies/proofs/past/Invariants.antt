use Rattle.refusal.proofs.Laws.{Walk as Loop}
use Rattle.encoded_value.specs.Depth.{deepest_value}
use Rattle.encoded_value.specs.Stages.{past_inner}
use Rattle.value_bodies.specs.Bodies.{past}
use Rattle.value_bodies.proofs.past.Given as goal

abbrev pub invariant-loop : goal.invariant-loop
invariant-loop l = Loop (past l.s l.w l.from l.named l.k) (past_inner l.s l.w l.named deepest_value) l.k l.counter l.p
