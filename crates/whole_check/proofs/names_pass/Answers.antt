use Rattle.whole_check.proofs.Laws.{laws}
use Rattle.whole_check.specs.Passes.{names_pass}
use Rattle.whole_check.proofs.names_pass.Goals as goal

pub returns-in_err-check_strings : goal.returns-in_err-check_strings
unfolding names_pass
returns-in_err-check_strings c = search laws depth 8

pub returns-in_err-types_pass : goal.returns-in_err-types_pass
unfolding names_pass
returns-in_err-types_pass c = search laws depth 8

pub returns : goal.returns
unfolding names_pass
returns c = search laws depth 8
