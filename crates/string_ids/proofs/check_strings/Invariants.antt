use Rattle.string_ids.proofs.Laws.{Checking}
use Rattle.string_ids.proofs.check_strings.Given as goal

abbrev pub invariant-loop-n : goal.invariant-loop-n
invariant-loop-n l = Checking l.f l.header l.s l.n l.last
