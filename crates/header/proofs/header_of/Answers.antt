use Rattle.header.proofs.Laws.{own_laws as laws}
use Rattle.header.specs.Header.{header_at}
use Rattle.header.proofs.header_of.Goals as goal

pub returns-then-f-lt112 : goal.returns-then-f-lt112
unfolding header_at
returns-then-f-lt112 c = search laws depth 7

pub returns-then-f-gt67108864 : goal.returns-then-f-gt67108864
unfolding header_at
returns-then-f-gt67108864 c = search laws depth 7

pub returns-then-is_four : goal.returns-then-is_four
unfolding header_at
returns-then-is_four c = search laws depth 7

pub returns : goal.returns
unfolding header_at
returns c = search laws depth 7
