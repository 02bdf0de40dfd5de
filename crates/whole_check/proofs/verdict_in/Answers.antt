use Rattle.whole_check.proofs.Laws.{laws}
use Rattle.whole_check.proofs.verdict_in.Goals as goal

pub returns-in_err-check_in : goal.returns-in_err-check_in
returns-in_err-check_in c = search laws depth 8

pub returns : goal.returns
returns c = search laws depth 8
