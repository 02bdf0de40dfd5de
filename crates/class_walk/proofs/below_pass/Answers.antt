use Rattle.class_walk.proofs.Laws.{laws}
use Rattle.class_walk.specs.Classes.{below_pass}
use Rattle.class_walk.proofs.below_pass.Goals as goal

pub returns-in_err-check_types : goal.returns-in_err-check_types
unfolding below_pass
returns-in_err-check_types c = search laws depth 9

pub returns-in_err-annotations_below : goal.returns-in_err-annotations_below
unfolding below_pass
returns-in_err-annotations_below c = search laws depth 9

pub returns-in_err-data_below : goal.returns-in_err-data_below
unfolding below_pass
returns-in_err-data_below c = search laws depth 9

pub returns : goal.returns
unfolding below_pass
returns c = search laws depth 9
