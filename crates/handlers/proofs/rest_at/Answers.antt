use Rattle.handlers.proofs.Laws.{rest_laws as laws}
use Rattle.handlers.specs.Handlers.{rest_at}
use Rattle.handlers.proofs.rest_at.Goals as goal

pub returns-in_err-pair : goal.returns-in_err-pair
unfolding rest_at
returns-in_err-pair c = search laws depth 7

pub returns-in_err-all : goal.returns-in_err-all
unfolding rest_at
returns-in_err-all c = search laws depth 7

pub returns : goal.returns
unfolding rest_at
returns c = search laws depth 7
