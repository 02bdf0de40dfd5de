use Rattle.handlers.proofs.Laws.{part_laws as laws}
use Rattle.handlers.specs.Handlers.{address_at}
use Rattle.handlers.proofs.address_at.Goals as goal

pub returns-then-value-j : goal.returns-then-value-j
unfolding address_at
returns-then-value-j c = search laws depth 7

pub returns-in_err-value : goal.returns-in_err-value
unfolding address_at
returns-in_err-value c = search laws depth 7

pub returns : goal.returns
unfolding address_at
returns c = search laws depth 7
