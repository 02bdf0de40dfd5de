use Rattle.refusal.proofs.Laws.{handed_on}
use Rattle.annotation_directories.proofs.Laws.{entries_laws as laws}
use Rattle.annotation_directories.proofs.entries_pass.Goals as goal

pub loop-init : goal.loop-init
loop-init c = search laws

pub returns-in_err-entry_at : goal.returns-in_err-entry_at
returns-in_err-entry_at c = let e = c.in_err-entry_at.ensures in handed_on _ _ c.from_residual.ensures (search laws)

pub loop-preserved : goal.loop-preserved
loop-preserved c = let e = c.in_ok-entry_at.ensures in search laws

pub returns : goal.returns
returns c = search laws
