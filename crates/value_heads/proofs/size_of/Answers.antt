use Rattle.value_heads.proofs.Laws.{kind_laws as laws}
use Rattle.value_heads.proofs.size_of.Goals as goal

pub returns-then-head-lt28 : goal.returns-then-head-lt28
returns-then-head-lt28 c = search laws

pub returns : goal.returns
returns c = search laws
