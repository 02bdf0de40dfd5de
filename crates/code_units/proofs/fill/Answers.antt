use Rattle.code_units.proofs.Laws.{fill_laws as laws}
use Rattle.code_units.proofs.fill.Goals as goal

pub returns : goal.returns
returns c = search laws

pub loop-i-init : goal.loop-i-init
loop-i-init c = search laws

pub loop-i-preserved : goal.loop-i-preserved
loop-i-preserved c = search laws
