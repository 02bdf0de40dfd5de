use Rattle.refusal.proofs.Laws.{handed_on}
use Rattle.annotation_lists.proofs.Laws.{offset_laws as laws}
use Rattle.annotation_lists.proofs.offsets_pass.Goals as goal

pub loop-init : goal.loop-init
loop-init c = search laws

pub returns-in_err-offset_at : goal.returns-in_err-offset_at
returns-in_err-offset_at c = let e = c.in_err-offset_at.ensures in handed_on _ _ c.from_residual.ensures (search laws)

pub loop-preserved : goal.loop-preserved
loop-preserved c = let e = c.in_ok-offset_at.ensures in search laws

pub returns : goal.returns
returns c = search laws
