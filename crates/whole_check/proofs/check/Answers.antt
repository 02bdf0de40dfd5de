use Rattle.whole_check.proofs.Laws.{laws}
use Rattle.whole_check.proofs.check.Goals as goal

pub returns-in_err-verdict : goal.returns-in_err-verdict
returns-in_err-verdict c = search laws depth 8

pub returns : goal.returns
returns c = search laws depth 8
