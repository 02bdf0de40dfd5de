use Rattle.table_readers.proofs.ListLaws.{laws}
use Rattle.table_readers.specs.Lists.{interface_in}
use Rattle.table_readers.proofs.lists.interface_in.Goals as goal

pub returns-in_err-c : goal.returns-in_err-c
unfolding interface_in
returns-in_err-c c = search laws

pub returns : goal.returns
unfolding interface_in
returns c = search laws
