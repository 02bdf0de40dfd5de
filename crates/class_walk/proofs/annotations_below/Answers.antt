use Rattle.class_walk.proofs.Laws.{framed as laws}
use Rattle.class_walk.specs.Classes.{annotations_at}
use Rattle.class_walk.proofs.annotations_below.Goals as goal

pub returns-then-at-le0 : goal.returns-then-at-le0
unfolding annotations_at
returns-then-at-le0 c = search laws depth 7

pub returns : goal.returns
unfolding annotations_at
returns c = search laws depth 7
