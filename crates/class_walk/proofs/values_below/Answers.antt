use Rattle.class_walk.proofs.Laws.{framed as laws}
use Rattle.class_walk.specs.Classes.{statics_at}
use Rattle.class_walk.proofs.values_below.Goals as goal

pub returns-then-at-le0 : goal.returns-then-at-le0
unfolding statics_at
returns-then-at-le0 c = search laws depth 8

pub returns-in_err-top_array : goal.returns-in_err-top_array
unfolding statics_at
returns-in_err-top_array c = search laws depth 8

pub returns : goal.returns
unfolding statics_at
returns c = search laws depth 8
