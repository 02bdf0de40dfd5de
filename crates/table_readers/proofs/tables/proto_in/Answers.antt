use Rattle.table_readers.proofs.TableLaws.{framed as laws}
use Rattle.table_readers.specs.Tables.{proto_in}
use Rattle.table_readers.proofs.tables.proto_in.Goals as goal

pub returns-then-n-t : goal.returns-then-n-t
unfolding proto_in
returns-then-n-t c = search laws

pub returns : goal.returns
unfolding proto_in
returns c = search laws
