use Rattle.table_readers.proofs.HeadLaws.{laws}
use Rattle.table_readers.specs.Head.{map_entry}
use Rattle.table_readers.proofs.head.map_entry.Goals as goal

pub returns-in_err-header : goal.returns-in_err-header
unfolding map_entry
returns-in_err-header c = search laws

pub returns : goal.returns
unfolding map_entry
returns c = search laws
