use Rattle.word.proofs.Laws.{laws}
use Rattle.word.proofs.u32_at.Goals as goal

pub returns-then-at-slice : goal.returns-then-at-slice
returns-then-at-slice c = search laws
