use Rattle.whole_check.proofs.Laws.{laws}
use Rattle.whole_check.specs.Passes.{records_pass}
use Rattle.whole_check.proofs.records_pass.Goals as goal

pub returns-in_err-members_pass : goal.returns-in_err-members_pass
unfolding records_pass
returns-in_err-members_pass c = search laws depth 8

pub returns : goal.returns
unfolding records_pass
returns c = search laws depth 8
