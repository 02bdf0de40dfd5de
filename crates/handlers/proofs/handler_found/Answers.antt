use Rattle.handlers.proofs.Laws.{handler_laws as laws}
use Rattle.handlers.specs.Handlers.{staged_handler}
use Rattle.handlers.proofs.handler_found.Goals as goal

pub returns-in_err-size : goal.returns-in_err-size
unfolding staged_handler
returns-in_err-size c = search laws depth 7

pub returns : goal.returns
unfolding staged_handler
returns c = search laws depth 7
