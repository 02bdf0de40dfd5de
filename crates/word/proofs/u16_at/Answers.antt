use Rattle.word.proofs.Laws.{laws}
use Rattle.word.proofs.u16_at.Goals as goal

pub returns-in-Little : goal.returns-in-Little
returns-in-Little c = search laws

pub returns-in-Big : goal.returns-in-Big
returns-in-Big c = search laws
