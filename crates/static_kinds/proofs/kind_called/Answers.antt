use Rattle.static_kinds.proofs.Laws.{text_laws as laws}
use Rattle.static_kinds.proofs.kind_called.Goals as goal

pub returns : goal.returns
returns c = search laws
