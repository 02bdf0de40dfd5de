use Rattle.debug_info.proofs.Laws.{zero_laws as laws}
use Rattle.debug_info.proofs.zero_at.Goals as goal

pub loop-p-init : goal.loop-p-init
loop-p-init c = search laws

pub loop-p-preserved : goal.loop-p-preserved
loop-p-preserved c = search laws

pub returns-then-s-p-eq0 : goal.returns-then-s-p-eq0
returns-then-s-p-eq0 c = search laws

pub returns : goal.returns
returns c = search laws
