use Rattle.value_heads.proofs.Laws.{head_laws as laws}
use Rattle.value_heads.specs.Readings.{head_byte_at}
use Rattle.value_heads.proofs.head_at.Goals as goal

pub returns-then-s-at : goal.returns-then-s-at
unfolding head_byte_at
returns-then-s-at c = search laws

pub returns-then-is_allowed_head : goal.returns-then-is_allowed_head
unfolding head_byte_at
returns-then-is_allowed_head c = search laws

pub returns : goal.returns
unfolding head_byte_at
returns c = search laws
