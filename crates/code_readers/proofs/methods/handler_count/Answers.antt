use Rattle.code_readers.proofs.Laws.{laws}
use Rattle.code_readers.specs.Code.{handler_count, handlers_in}
use Rattle.code_readers.proofs.methods.handler_count.Goals as goal

pub returns-in_err-o : goal.returns-in_err-o
unfolding handler_count handlers_in
returns-in_err-o c = search laws

pub returns-in_default : goal.returns-in_default
unfolding handler_count handlers_in
returns-in_default c = search laws

pub returns : goal.returns
unfolding handler_count handlers_in
returns c = search laws
