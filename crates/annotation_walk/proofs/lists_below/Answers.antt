use Rattle.annotation_walk.proofs.Laws.{list_laws as laws}
use Rattle.annotation_walk.proofs.Laws.{lists_gone_over}
use Rattle.annotation_walk.specs.Below.{head_below}
use Rattle.annotation_walk.proofs.lists_below.Goals as goal

pub returns-in_err-own_set : goal.returns-in_err-own_set
unfolding lists_gone_over head_below
returns-in_err-own_set c = search laws depth 9

pub returns-in_err-below_pass : goal.returns-in_err-below_pass
unfolding lists_gone_over head_below
returns-in_err-below_pass c = search laws depth 9

pub returns-in_err-below_pass-2 : goal.returns-in_err-below_pass-2
unfolding lists_gone_over head_below
returns-in_err-below_pass-2 c = search laws depth 9

pub returns : goal.returns
unfolding lists_gone_over head_below
returns c = search laws depth 9
