use Rattle.table_readers.proofs.TableLaws.{framed as laws}
use Rattle.table_readers.specs.Tables.{handle_under}
use Rattle.table_readers.proofs.tables.handle_under.Goals as goal

pub returns-then-n-t : goal.returns-then-n-t
unfolding handle_under
returns-then-n-t c = search laws

pub returns : goal.returns
unfolding handle_under
returns c = search laws
