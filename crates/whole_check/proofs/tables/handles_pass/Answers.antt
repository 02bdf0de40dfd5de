use Rattle.refusal.proofs.Laws.{handed_on}
use Rattle.whole_check.proofs.TableLaws.{counting as laws}
use Rattle.whole_check.proofs.tables.handles_pass.Goals as goal

pub loop-k-init : goal.loop-k-init
loop-k-init c = search laws

pub returns-in_err-handle_pass : goal.returns-in_err-handle_pass
returns-in_err-handle_pass c = let e = c.in_err-handle_pass.ensures in handed_on _ _ c.from_residual.ensures (search laws)

pub loop-k-preserved : goal.loop-k-preserved
loop-k-preserved c = let e = c.in_ok-handle_pass.ensures in search laws

pub returns : goal.returns
returns c = search laws
