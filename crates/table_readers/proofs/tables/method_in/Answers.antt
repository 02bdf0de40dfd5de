use Rattle.table_readers.proofs.TableLaws.{framed as laws}
use Rattle.table_readers.specs.Tables.{method_in}
use Rattle.table_readers.proofs.tables.method_in.Goals as goal

pub returns-then-n-t : goal.returns-then-n-t
unfolding method_in
returns-then-n-t c = search laws

pub returns : goal.returns
unfolding method_in
returns c = search laws
