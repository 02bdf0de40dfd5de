use Rattle.value_heads.proofs.Laws.{kind_laws as laws}
use Rattle.value_heads.specs.Kinds.{allowed_head, arguments}
use Rattle.value_heads.proofs.is_allowed_head.Goals as goal

pub returns : goal.returns
unfolding allowed_head arguments
returns c = search laws
