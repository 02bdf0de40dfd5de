use Rattle.refusal.proofs.Laws.{handed_on}
use Rattle.annotation_walk.proofs.Laws.{item_laws as laws}
use Rattle.annotation_walk.proofs.items_pass.Goals as goal

pub loop-init : goal.loop-init
loop-init c = search laws

pub returns-in_err-annotation_item : goal.returns-in_err-annotation_item
returns-in_err-annotation_item c = let e = c.in_err-annotation_item.ensures in handed_on _ _ c.from_residual.ensures (search laws)

pub loop-preserved : goal.loop-preserved
loop-preserved c = let e = c.in_ok-annotation_item.ensures in search laws

pub returns : goal.returns
returns c = search laws
