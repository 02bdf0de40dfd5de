use Rattle.text.proofs.Laws.{staged_at, string_laws as laws}
use Rattle.text.proofs.string_at.Goals as goal

pub overflow_sub-length : goal.overflow_sub-length
overflow_sub-length c = search laws depth 8

pub returns-then-units-value : goal.returns-then-units-value
unfolding staged_at
returns-then-units-value c = search laws depth 8

pub returns-in_err-value : goal.returns-in_err-value
unfolding staged_at
returns-in_err-value c = search laws depth 8

pub returns-in_err-units : goal.returns-in_err-units
unfolding staged_at
returns-in_err-units c = search laws depth 8

pub returns : goal.returns
unfolding staged_at
returns c = search laws depth 8
