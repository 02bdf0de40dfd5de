use Rattle.table_readers.proofs.TableLaws.{framed as laws}
use Rattle.table_readers.specs.Tables.{class_in}
use Rattle.table_readers.proofs.tables.class_in.Goals as goal

pub returns-then-n-t : goal.returns-then-n-t
unfolding class_in
returns-then-n-t c = search laws

pub returns : goal.returns
unfolding class_in
returns c = search laws
