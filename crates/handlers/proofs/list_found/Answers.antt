use Rattle.refusal.proofs.Laws.{handed_on}
use Rattle.handlers.proofs.Laws.{loop_laws as laws}
use Rattle.handlers.proofs.list_found.Goals as goal

pub returns : goal.returns
returns c = search laws

pub loop-i-init : goal.loop-i-init
loop-i-init c = search laws

pub returns-in_err-brief : goal.returns-in_err-brief
returns-in_err-brief c = let e = c.in_err-brief.ensures in handed_on _ _ c.from_residual.ensures (search laws)

pub loop-i-preserved : goal.loop-i-preserved
loop-i-preserved c = let e = c.in_ok-brief.ensures in search laws
