use Rattle.table_readers.proofs.ListLaws.{laws}
use Rattle.table_readers.specs.Lists.{interfaces_in}
use Rattle.table_readers.proofs.lists.interfaces_in.Goals as goal

pub returns-in_err-c : goal.returns-in_err-c
unfolding interfaces_in
returns-in_err-c c = search laws

pub returns : goal.returns
unfolding interfaces_in
returns c = search laws
