use Rattle.table_readers.proofs.TableLaws.{laws}
use Rattle.table_readers.specs.Tables.{field_number}
use Rattle.table_readers.proofs.tables.field.Goals as goal

pub returns-in_err-header : goal.returns-in_err-header
unfolding field_number
returns-in_err-header c = search laws

pub returns : goal.returns
unfolding field_number
returns c = search laws
