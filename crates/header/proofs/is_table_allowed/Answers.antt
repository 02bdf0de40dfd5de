use Rattle.header.proofs.Laws.{table_laws as laws}
use Rattle.header.proofs.is_table_allowed.Goals as goal

pub returns-then-count-eq0 : goal.returns-then-count-eq0
returns-then-count-eq0 c = search laws

pub returns-then-offset-lt112 : goal.returns-then-offset-lt112
returns-then-offset-lt112 c = search laws

pub returns-then-offset-ne0 : goal.returns-then-offset-ne0
returns-then-offset-ne0 c = search laws

pub returns-then-length-offset : goal.returns-then-length-offset
returns-then-length-offset c = search laws

pub returns : goal.returns
returns c = search laws
