use Rattle.table_readers.proofs.TableLaws.{laws}
use Rattle.table_readers.specs.Tables.{type_name}
use Rattle.table_readers.proofs.tables.type_name.Goals as goal

pub returns-in_err-header : goal.returns-in_err-header
unfolding type_name
returns-in_err-header c = search laws

pub returns : goal.returns
unfolding type_name
returns c = search laws
