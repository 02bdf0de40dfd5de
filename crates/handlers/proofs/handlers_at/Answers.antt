use Rattle.handlers.proofs.Laws.{stage_laws as laws}
use Rattle.handlers.specs.Handlers.{staged_at}
use Rattle.handlers.proofs.handlers_at.Goals as goal

pub returns-in_err-count : goal.returns-in_err-count
unfolding staged_at
returns-in_err-count c = search laws depth 9

pub returns-in_err-brief : goal.returns-in_err-brief
unfolding staged_at
returns-in_err-brief c = search laws depth 9

pub returns-then-count-gt0 : goal.returns-then-count-gt0
unfolding staged_at
returns-then-count-gt0 c = search laws depth 9

pub returns : goal.returns
unfolding staged_at
returns c = search laws depth 9
