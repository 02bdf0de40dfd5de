use Rattle.register_text.proofs.WholeLaws.{halve_laws as laws}
use Rattle.register_text.proofs.halved.Goals as goal

pub loop-init : goal.loop-init
loop-init c = search laws

pub returns-then-rest-ne0 : goal.returns-then-rest-ne0
returns-then-rest-ne0 c = search laws

pub loop-preserved : goal.loop-preserved
loop-preserved c = search laws

pub returns : goal.returns
returns c = search laws
