use Rattle.static_kinds.proofs.Laws.{text_laws as laws}
use Rattle.static_kinds.proofs.default_of.Goals as goal

pub returns : goal.returns
returns c = search laws
