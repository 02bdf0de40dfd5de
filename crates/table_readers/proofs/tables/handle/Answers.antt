use Rattle.table_readers.proofs.TableLaws.{laws}
use Rattle.table_readers.specs.Tables.{handle_number}
use Rattle.table_readers.proofs.tables.handle.Goals as goal

pub returns-in_err-header : goal.returns-in_err-header
unfolding handle_number
returns-in_err-header c = search laws

pub returns : goal.returns
unfolding handle_number
returns c = search laws
