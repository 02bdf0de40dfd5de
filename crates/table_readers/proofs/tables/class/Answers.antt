use Rattle.table_readers.proofs.TableLaws.{laws}
use Rattle.table_readers.specs.Tables.{class_number}
use Rattle.table_readers.proofs.tables.class.Goals as goal

pub returns-in_err-header : goal.returns-in_err-header
unfolding class_number
returns-in_err-header c = search laws

pub returns : goal.returns
unfolding class_number
returns c = search laws
