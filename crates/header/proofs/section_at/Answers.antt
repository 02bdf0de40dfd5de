use Rattle.header.proofs.Laws.{own_laws as laws}
use Rattle.header.specs.Header.{section_of}
use Rattle.header.proofs.section_at.Goals as goal

pub returns-then-start-lt112 : goal.returns-then-start-lt112
unfolding section_of
returns-then-start-lt112 c = search laws

pub returns-then-f-start : goal.returns-then-f-start
unfolding section_of
returns-then-f-start c = search laws

pub returns : goal.returns
unfolding section_of
returns c = search laws
