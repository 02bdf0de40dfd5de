use Rattle.header.proofs.Laws.{table_laws as laws}
use Rattle.header.specs.Header.{table_of}
use Rattle.header.proofs.table_at.Goals as goal

pub returns-then-is_table_allowed : goal.returns-then-is_table_allowed
unfolding table_of
returns-then-is_table_allowed c = search laws

pub returns : goal.returns
unfolding table_of
returns c = search laws
