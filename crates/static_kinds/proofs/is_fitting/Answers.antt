use Rattle.static_kinds.proofs.Laws.{text_laws as laws}
use Rattle.static_kinds.proofs.is_fitting.Goals as goal

pub returns : goal.returns
returns c = search laws
