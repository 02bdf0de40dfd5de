use Rattle.class_walk.proofs.Laws.{framed as laws}
use Rattle.class_walk.specs.Classes.{data_at}
use Rattle.class_walk.proofs.data_below.Goals as goal

pub returns-then-at-le0 : goal.returns-then-at-le0
unfolding data_at
returns-then-at-le0 c = search laws depth 7

pub returns : goal.returns
unfolding data_at
returns c = search laws depth 7
