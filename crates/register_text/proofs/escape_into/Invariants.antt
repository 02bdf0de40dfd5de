use Rattle.register_text.proofs.Laws.{Escaping}
use Rattle.register_text.proofs.escape_into.Given as goal

abbrev pub invariant-loop-i : goal.invariant-loop-i
invariant-loop-i l = Escaping l.key l.text l.from l.initial.out l.out l.i l.p
