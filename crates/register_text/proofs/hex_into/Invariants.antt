use Rattle.register_text.proofs.NumberLaws.{Digiting}
use Rattle.register_text.proofs.hex_into.Given as goal

abbrev pub invariant-loop-i : goal.invariant-loop-i
invariant-loop-i l = Digiting l.digits l.n l.initial.out l.out l.i l.rest
