use Rattle.register_text.proofs.Laws.{laws}
use Rattle.register_text.proofs.escape_into.Goals as goal

pub loop-i-init : goal.loop-i-init
loop-i-init c = search laws

pub returns-then-out-p : goal.returns-then-out-p
returns-then-out-p c = search laws

pub loop-i-preserved : goal.loop-i-preserved
loop-i-preserved c = search laws

pub returns : goal.returns
returns c = search laws
