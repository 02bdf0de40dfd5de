use Rattle.table_readers.proofs.HeadLaws.{laws}
use Rattle.table_readers.specs.Head.{mapped_at}
use Rattle.table_readers.proofs.head.mapped.Goals as goal

pub returns-in_err-m : goal.returns-in_err-m
unfolding mapped_at
returns-in_err-m c = search laws

pub returns : goal.returns
unfolding mapped_at
returns c = search laws
