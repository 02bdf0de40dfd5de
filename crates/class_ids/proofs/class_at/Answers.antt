use Rattle.class_ids.proofs.Laws.{own_laws as laws}
use Rattle.class_ids.proofs.class_at.Goals as goal

pub returns : goal.returns
returns c = search laws
