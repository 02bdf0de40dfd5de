use Rattle.type_list.proofs.Laws.{going as laws}
use Rattle.type_list.proofs.all.Goals as goal

pub returns-then-j-t : goal.returns-then-j-t
returns-then-j-t c = search laws

pub returns : goal.returns
returns c = search laws

pub loop-k-init : goal.loop-k-init
loop-k-init c = search laws

pub loop-k-preserved : goal.loop-k-preserved
loop-k-preserved c = search laws
