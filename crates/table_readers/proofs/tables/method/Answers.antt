use Rattle.table_readers.proofs.TableLaws.{laws}
use Rattle.table_readers.specs.Tables.{method_number}
use Rattle.table_readers.proofs.tables.method.Goals as goal

pub returns-in_err-header : goal.returns-in_err-header
unfolding method_number
returns-in_err-header c = search laws

pub returns : goal.returns
unfolding method_number
returns c = search laws
