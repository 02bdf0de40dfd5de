use Rattle.class_readers.proofs.SpotLaws.{laws}
use Rattle.debug_readers.specs.Debug.{parameter_name}
use Rattle.debug_readers.proofs.lines.debug_parameter.Goals as goal

pub returns-in_err-spot : goal.returns-in_err-spot
unfolding parameter_name
returns-in_err-spot c = search laws

pub returns-in_default : goal.returns-in_default
unfolding parameter_name
returns-in_default c = search laws

pub returns : goal.returns
unfolding parameter_name
returns c = search laws
