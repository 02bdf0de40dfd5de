use Rattle.table_readers.proofs.ListLaws.{list_laws as laws}
use Rattle.table_readers.specs.Lists.{list_type}
use Rattle.table_readers.proofs.lists.list_type.Goals as goal

pub returns-then-at-gt0 : goal.returns-then-at-gt0
unfolding list_type
returns-then-at-gt0 c = search laws

pub returns : goal.returns
unfolding list_type
returns c = search laws
