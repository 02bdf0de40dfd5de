use Rattle.class_readers.proofs.SpotLaws.{laws}
use Rattle.code_readers.specs.Code.{try_number}
use Rattle.code_readers.proofs.methods.try_item.Goals as goal

pub returns-in_err-spot : goal.returns-in_err-spot
unfolding try_number
returns-in_err-spot c = search laws

pub returns-in_default : goal.returns-in_default
unfolding try_number
returns-in_default c = search laws

pub returns : goal.returns
unfolding try_number
returns c = search laws
