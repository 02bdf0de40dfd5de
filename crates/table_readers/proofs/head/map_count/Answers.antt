use Rattle.table_readers.proofs.HeadLaws.{laws}
use Rattle.table_readers.specs.Head.{map_count}
use Rattle.table_readers.proofs.head.map_count.Goals as goal

pub returns-in_err-header : goal.returns-in_err-header
unfolding map_count
returns-in_err-header c = search laws depth 7

pub returns-in_err-m : goal.returns-in_err-m
unfolding map_count
returns-in_err-m c = search laws depth 7

pub returns : goal.returns
unfolding map_count
returns c = search laws depth 7
