use Rattle.class_walk.proofs.Laws.{laws}
use Rattle.class_walk.specs.Classes.{class_below}
use Rattle.class_walk.proofs.check_class.Goals as goal

pub returns-in_err-c : goal.returns-in_err-c
unfolding class_below
returns-in_err-c c = search laws depth 7

pub returns-in_err-below_pass : goal.returns-in_err-below_pass
unfolding class_below
returns-in_err-below_pass c = search laws depth 7

pub returns : goal.returns
unfolding class_below
returns c = search laws depth 7
