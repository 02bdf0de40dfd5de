use Rattle.header.proofs.Laws.{four_laws as laws}
use Rattle.header.specs.Header.{version_at}
use Rattle.header.proofs.version_at.Goals as goal

pub returns-then-is_four : goal.returns-then-is_four
unfolding version_at
returns-then-is_four c = search laws depth 7

pub returns-then-is_four-2 : goal.returns-then-is_four-2
unfolding version_at
returns-then-is_four-2 c = search laws depth 7

pub returns-then-is_four-3 : goal.returns-then-is_four-3
unfolding version_at
returns-then-is_four-3 c = search laws depth 7

pub returns-then-is_four-4 : goal.returns-then-is_four-4
unfolding version_at
returns-then-is_four-4 c = search laws depth 7

pub returns : goal.returns
unfolding version_at
returns c = search laws depth 7
