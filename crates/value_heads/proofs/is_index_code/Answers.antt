use Rattle.value_heads.proofs.Laws.{kind_laws as laws}
use Rattle.value_heads.proofs.is_index_code.Goals as goal

pub returns-in-21-to-27 : goal.returns-in-21-to-27
returns-in-21-to-27 c = search laws

pub returns-in_default : goal.returns-in_default
returns-in_default c = search laws

pub returns-in_default-2 : goal.returns-in_default-2
returns-in_default-2 c = search laws
