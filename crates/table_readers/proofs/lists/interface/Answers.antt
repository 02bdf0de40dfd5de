use Rattle.table_readers.proofs.ListLaws.{laws}
use Rattle.table_readers.specs.Lists.{interface}
use Rattle.table_readers.proofs.lists.interface.Goals as goal

pub returns-in_err-header : goal.returns-in_err-header
unfolding interface
returns-in_err-header c = search laws

pub returns : goal.returns
unfolding interface
returns c = search laws
