use Rattle.register_text.proofs.WholeLaws.{Halving}
use Rattle.register_text.proofs.halved.Given as goal

abbrev pub invariant-loop : goal.invariant-loop
invariant-loop l = Halving l.n l.times l.rest l.counter
