use Rattle.code_readers.proofs.Laws.{under_laws as laws}
use Rattle.code_readers.specs.Code.{handler_under}
use Rattle.code_readers.proofs.methods.handler_under.Goals as goal

pub returns-in_err-handler : goal.returns-in_err-handler
unfolding handler_under
returns-in_err-handler c = search laws

pub returns : goal.returns
unfolding handler_under
returns c = search laws
