use Rattle.table_readers.proofs.HeadLaws.{laws}
use Rattle.table_readers.specs.Head.{handle_count}
use Rattle.table_readers.proofs.head.handle_count.Goals as goal

pub returns-in_err-header : goal.returns-in_err-header
unfolding handle_count
returns-in_err-header c = search laws depth 7

pub returns-in_err-m : goal.returns-in_err-m
unfolding handle_count
returns-in_err-m c = search laws depth 7

pub returns : goal.returns
unfolding handle_count
returns c = search laws depth 7
