use Rattle.refusal.proofs.Laws.{handed_on}
use Rattle.debug_info.proofs.Laws.{names_laws as laws}
use Rattle.debug_info.proofs.names_at.Goals as goal

pub loop-i-init : goal.loop-i-init
loop-i-init c = search laws

pub returns-in_err-name : goal.returns-in_err-name
returns-in_err-name c = let e = c.in_err-name.ensures in handed_on _ _ c.from_residual.ensures (search laws)

pub loop-i-preserved : goal.loop-i-preserved
loop-i-preserved c = let e = c.in_ok-name.ensures in search laws

pub returns : goal.returns
returns c = search laws
