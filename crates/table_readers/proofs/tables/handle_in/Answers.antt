use Rattle.table_readers.proofs.TableLaws.{laws}
use Rattle.table_readers.specs.Tables.{handle_in}
use Rattle.table_readers.proofs.tables.handle_in.Goals as goal

pub returns-in_err-m : goal.returns-in_err-m
unfolding handle_in
returns-in_err-m c = search laws

pub returns : goal.returns
unfolding handle_in
returns c = search laws
