use Rattle.text.specs.Singles.{FewSingles}
use Rattle.text.proofs.singles_at.Given as goal

abbrev pub invariant-loop-n : goal.invariant-loop-n
invariant-loop-n l = FewSingles l.s l.p l.n
