use Rattle.class_members.proofs.Laws.{Members}
use Rattle.class_members.proofs.members_at.Given as goal

abbrev pub invariant-loop-i : goal.invariant-loop-i
invariant-loop-i l = Members l.s l.j l.item l.from l.count l.k l.p l.base l.later l.i l.index l.flags l.code
