use Rattle.handlers.proofs.Laws.{all_laws as laws}
use Rattle.handlers.specs.Handlers.{all_at}
use Rattle.handlers.proofs.all_at.Goals as goal

pub returns : goal.returns
unfolding all_at
returns c = search laws depth 8

pub returns-in_err-value : goal.returns-in_err-value
unfolding all_at
returns-in_err-value c = search laws depth 8

pub returns-then-is_catching : goal.returns-then-is_catching
unfolding all_at
returns-then-is_catching c = search laws depth 8
