use Rattle.text.proofs.Laws.{singles_laws as laws}
use Rattle.text.proofs.singles_at.Goals as goal

pub returns-then-s-p-lt8 : goal.returns-then-s-p-lt8
returns-then-s-p-lt8 c = search laws

pub loop-n-init : goal.loop-n-init
loop-n-init c = search laws

pub loop-n-preserved : goal.loop-n-preserved
loop-n-preserved c = search laws
