use Rattle.whole_check.proofs.Laws.{laws}
use Rattle.whole_check.specs.Passes.{items_pass}
use Rattle.whole_check.proofs.items_pass.Goals as goal

pub returns-in_err-handles_pass : goal.returns-in_err-handles_pass
unfolding items_pass
returns-in_err-handles_pass c = search laws depth 8

pub returns : goal.returns
unfolding items_pass
returns c = search laws depth 8
