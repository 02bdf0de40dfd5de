use Rattle.leb128.proofs.Laws.{Head}
use Rattle.leb128.proofs.weigh.Given as goal

abbrev pub invariant-loop-k : goal.invariant-loop-k
invariant-loop-k l = Head l.s l.item l.at l.p l.value l.scale l.k
