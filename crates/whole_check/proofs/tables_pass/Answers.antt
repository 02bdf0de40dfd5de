use Rattle.whole_check.proofs.Laws.{laws}
use Rattle.whole_check.specs.Passes.{tables_pass}
use Rattle.whole_check.proofs.tables_pass.Goals as goal

pub returns-in_err-names_pass : goal.returns-in_err-names_pass
unfolding tables_pass
returns-in_err-names_pass c = search laws depth 8

pub returns-in_err-records_pass : goal.returns-in_err-records_pass
unfolding tables_pass
returns-in_err-records_pass c = search laws depth 8

pub returns : goal.returns
unfolding tables_pass
returns c = search laws depth 8
