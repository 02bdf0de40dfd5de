use Rattle.table_readers.proofs.TableLaws.{laws}
use Rattle.table_readers.specs.Tables.{proto_number}
use Rattle.table_readers.proofs.tables.proto.Goals as goal

pub returns-in_err-header : goal.returns-in_err-header
unfolding proto_number
returns-in_err-header c = search laws

pub returns : goal.returns
unfolding proto_number
returns c = search laws
