use Rattle.table_readers.proofs.ListLaws.{laws}
use Rattle.table_readers.specs.Lists.{parameter_in}
use Rattle.table_readers.proofs.lists.parameter_in.Goals as goal

pub returns-in_err-p : goal.returns-in_err-p
unfolding parameter_in
returns-in_err-p c = search laws

pub returns : goal.returns
unfolding parameter_in
returns c = search laws
