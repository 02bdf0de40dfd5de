use Rattle.header.proofs.Laws.{section_laws as laws}
use Rattle.header.proofs.up_to_end.Goals as goal

pub returns-then-f-header : goal.returns-then-f-header
returns-then-f-header c = search laws

pub returns : goal.returns
returns c = search laws
