use Rattle.table_readers.proofs.HeadLaws.{laws}
use Rattle.table_readers.specs.Head.{opened_at}
use Rattle.table_readers.proofs.head.open.Goals as goal

pub returns-in_err-header : goal.returns-in_err-header
unfolding opened_at
returns-in_err-header c = search laws

pub returns : goal.returns
unfolding opened_at
returns c = search laws
