use Rattle.table_readers.proofs.HeadLaws.{laws}
use Rattle.table_readers.specs.Head.{map_entry_in}
use Rattle.table_readers.proofs.head.map_entry_in.Goals as goal

pub returns-in_err-m : goal.returns-in_err-m
unfolding map_entry_in
returns-in_err-m c = search laws

pub returns-then-k-m : goal.returns-then-k-m
unfolding map_entry_in
returns-then-k-m c = search laws

pub returns : goal.returns
unfolding map_entry_in
returns c = search laws
