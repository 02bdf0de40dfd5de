use Rattle.annotation_walk.proofs.Laws.{stage_laws as laws}
use Rattle.annotation_walk.proofs.own_set.Goals as goal

pub returns-then-offset-le0 : goal.returns-then-offset-le0
returns-then-offset-le0 c = search laws

pub returns : goal.returns
returns c = search laws
