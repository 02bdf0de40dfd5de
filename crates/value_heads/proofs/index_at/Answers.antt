use Rattle.value_heads.proofs.Laws.{checked_laws as laws}
use Rattle.value_heads.specs.Readings.{index_at}
use Rattle.value_heads.proofs.index_at.Goals as goal

pub returns-then-value-count : goal.returns-then-value-count
unfolding index_at
returns-then-value-count c = search laws

pub returns-in_err-value : goal.returns-in_err-value
unfolding index_at
returns-in_err-value c = search laws

pub returns : goal.returns
unfolding index_at
returns c = search laws
