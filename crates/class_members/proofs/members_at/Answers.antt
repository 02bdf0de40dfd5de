use Rattle.refusal.proofs.Laws.{handed_on}
use Rattle.class_members.proofs.Laws.{loop_laws as laws}
use Rattle.class_members.proofs.members_at.Goals as goal

pub loop-i-init : goal.loop-i-init
loop-i-init c = search laws

pub returns-in_err-member : goal.returns-in_err-member
returns-in_err-member c = let e = c.in_err-member.ensures in handed_on _ _ c.from_residual.ensures (search laws)

pub loop-i-preserved : goal.loop-i-preserved
loop-i-preserved c = let e = c.in_ok-member.ensures in search laws

pub returns : goal.returns
returns c = search laws
