use Rattle.value_heads.proofs.Laws.{checked_laws as laws}
use Rattle.value_heads.specs.Readings.{checked_at}
use Rattle.value_heads.proofs.checked_number.Goals as goal

pub returns-then-is_in_range : goal.returns-then-is_in_range
unfolding checked_at
returns-then-is_in_range c = search laws

pub returns-in_err-value : goal.returns-in_err-value
unfolding checked_at
returns-in_err-value c = search laws

pub returns : goal.returns
unfolding checked_at
returns c = search laws
