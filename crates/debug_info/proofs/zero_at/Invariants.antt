use Rattle.debug_info.proofs.Laws.{Head}
use Rattle.debug_info.proofs.zero_at.Given as goal

abbrev pub invariant-loop-p : goal.invariant-loop-p
invariant-loop-p l = Head l.s l.item l.start l.p
