use Rattle.table_readers.proofs.ListLaws.{laws}
use Rattle.table_readers.specs.Lists.{parameters_in}
use Rattle.table_readers.proofs.lists.parameters_in.Goals as goal

pub returns-in_err-p : goal.returns-in_err-p
unfolding parameters_in
returns-in_err-p c = search laws

pub returns : goal.returns
unfolding parameters_in
returns c = search laws
