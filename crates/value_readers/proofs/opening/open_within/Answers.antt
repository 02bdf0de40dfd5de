use Rattle.value_readers.proofs.Laws.{laws}
use Rattle.value_readers.specs.Opening.{opened_within}
use Rattle.value_readers.proofs.opening.open_within.Goals as goal

pub returns-then-is_allowed : goal.returns-then-is_allowed
unfolding opened_within
returns-then-is_allowed c = search laws

pub returns-in_err-o : goal.returns-in_err-o
unfolding opened_within
returns-in_err-o c = search laws

pub returns : goal.returns
unfolding opened_within
returns c = search laws
