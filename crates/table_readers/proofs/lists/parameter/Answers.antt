use Rattle.table_readers.proofs.ListLaws.{laws}
use Rattle.table_readers.specs.Lists.{parameter}
use Rattle.table_readers.proofs.lists.parameter.Goals as goal

pub returns-in_err-header : goal.returns-in_err-header
unfolding parameter
returns-in_err-header c = search laws

pub returns : goal.returns
unfolding parameter
returns c = search laws
