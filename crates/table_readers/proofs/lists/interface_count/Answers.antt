use Rattle.table_readers.proofs.ListLaws.{laws}
use Rattle.table_readers.specs.Lists.{interface_count}
use Rattle.table_readers.proofs.lists.interface_count.Goals as goal

pub returns-in_err-header : goal.returns-in_err-header
unfolding interface_count
returns-in_err-header c = search laws

pub returns : goal.returns
unfolding interface_count
returns c = search laws
