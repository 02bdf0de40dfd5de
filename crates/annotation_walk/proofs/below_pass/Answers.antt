use Rattle.refusal.proofs.Laws.{handed_on}
use Rattle.annotation_walk.proofs.Laws.{one_laws as laws}
use Rattle.annotation_walk.proofs.below_pass.Goals as goal

pub loop-init : goal.loop-init
loop-init c = search laws

pub returns-in_err-one_below : goal.returns-in_err-one_below
returns-in_err-one_below c = let e = c.in_err-one_below.ensures in handed_on _ _ c.from_residual.ensures (search laws)

pub loop-preserved : goal.loop-preserved
loop-preserved c = let e = c.in_ok-one_below.ensures in search laws

pub returns : goal.returns
returns c = search laws
