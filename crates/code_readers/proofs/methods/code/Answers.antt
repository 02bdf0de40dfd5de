use Rattle.class_readers.proofs.SpotLaws.{laws}
use Rattle.code_readers.specs.Code.{method_code}
use Rattle.code_readers.proofs.methods.code.Goals as goal

pub returns-in_err-spot : goal.returns-in_err-spot
unfolding method_code
returns-in_err-spot c = search laws

pub returns-in_default : goal.returns-in_default
unfolding method_code
returns-in_default c = search laws

pub returns : goal.returns
unfolding method_code
returns c = search laws
