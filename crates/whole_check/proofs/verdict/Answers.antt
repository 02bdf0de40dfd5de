use Rattle.whole_check.proofs.Laws.{laws}
use Rattle.whole_check.proofs.verdict.Goals as goal

pub returns-in_err-header : goal.returns-in_err-header
returns-in_err-header c = search laws depth 8

pub returns : goal.returns
returns c = search laws depth 8
