use Rattle.value_heads.proofs.Laws.{kind_laws as laws}
use Rattle.value_heads.proofs.is_in_range.Goals as goal

pub returns-then-is_index_code : goal.returns-then-is_index_code
returns-then-is_index_code c = search laws

pub returns : goal.returns
returns c = search laws
