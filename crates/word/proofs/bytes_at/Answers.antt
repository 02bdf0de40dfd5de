use Rattle.word.proofs.Laws.{laws}
use Rattle.word.proofs.bytes_at.Goals as goal

pub returns-then-slice-start : goal.returns-then-slice-start
returns-then-slice-start c = search laws

pub returns-then-slice-start-2 : goal.returns-then-slice-start-2
returns-then-slice-start-2 c = search laws

pub returns : goal.returns
returns c = search laws
