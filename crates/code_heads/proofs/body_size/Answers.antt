use Rattle.code_heads.proofs.Laws.{size_laws as laws}
use Rattle.code_heads.proofs.body_size.Goals as goal

pub returns : goal.returns
returns c = search laws
