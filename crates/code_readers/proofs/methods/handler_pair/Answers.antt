use Rattle.class_readers.proofs.SpotLaws.{laws}
use Rattle.code_readers.specs.Code.{handler_pair}
use Rattle.code_readers.proofs.methods.handler_pair.Goals as goal

pub returns-in_err-spot : goal.returns-in_err-spot
unfolding handler_pair
returns-in_err-spot c = search laws

pub returns-in_default : goal.returns-in_default
unfolding handler_pair
returns-in_default c = search laws

pub returns : goal.returns
unfolding handler_pair
returns c = search laws
