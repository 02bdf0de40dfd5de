use Rattle.whole_check.proofs.Laws.{laws}
use Rattle.whole_check.specs.Passes.{pass_in}
use Rattle.whole_check.proofs.check_in.Goals as goal

pub returns-in_err-m : goal.returns-in_err-m
unfolding pass_in
returns-in_err-m c = search laws depth 8

pub returns : goal.returns
unfolding pass_in
returns c = search laws depth 8
