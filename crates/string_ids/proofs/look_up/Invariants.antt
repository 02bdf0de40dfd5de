use Rattle.string_ids.proofs.Laws.{Looking}
use Rattle.string_ids.proofs.look_up.Given as goal

abbrev pub invariant-loop-k : goal.invariant-loop-k
invariant-loop-k l = Looking l.f l.header l.text l.s l.k l.last l.found
