use Rattle.refusal.proofs.Laws.{handed_on}
use Rattle.annotation_walk.proofs.Laws.{set_laws as laws}
use Rattle.annotation_walk.proofs.sets_pass.Goals as goal

pub loop-init : goal.loop-init
loop-init c = search laws

pub returns-in_err-own_set : goal.returns-in_err-own_set
returns-in_err-own_set c = let e = c.in_err-own_set.ensures in handed_on _ _ c.from_residual.ensures (search laws)

pub loop-preserved : goal.loop-preserved
loop-preserved c = let e = c.in_ok-own_set.ensures in search laws

pub returns : goal.returns
returns c = search laws
