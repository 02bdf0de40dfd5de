use Rattle.asking.proofs.LineLaws.{Laying}
use Rattle.asking.proofs.lines.words_into.Given as goal

abbrev pub invariant-loop-word : goal.invariant-loop-word
invariant-loop-word l = Laying l.row l.mask l.initial.out l.out l.bits l.at l.word-index
