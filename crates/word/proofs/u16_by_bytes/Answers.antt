use Rattle.word.proofs.Laws.{laws}
use Rattle.word.proofs.u16_by_bytes.Goals as goal

pub returns-then-slice-at : goal.returns-then-slice-at
returns-then-slice-at c = search laws

pub returns : goal.returns
returns c = search laws
