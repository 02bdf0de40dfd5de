use Rattle.code_item.proofs.Covering.{Looking}
use Rattle.code_item.proofs.cover_at.Given as goal

abbrev pub invariant-loop-i : goal.invariant-loop-i
invariant-loop-i l = Looking l.order l.s l.from l.count l.address l.place l.i
