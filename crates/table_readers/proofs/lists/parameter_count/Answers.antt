use Rattle.table_readers.proofs.ListLaws.{laws}
use Rattle.table_readers.specs.Lists.{parameter_count}
use Rattle.table_readers.proofs.lists.parameter_count.Goals as goal

pub returns-in_err-header : goal.returns-in_err-header
unfolding parameter_count
returns-in_err-header c = search laws

pub returns : goal.returns
unfolding parameter_count
returns c = search laws
