use Rattle.class_readers.proofs.SpotLaws.{laws}
use Rattle.debug_readers.specs.Debug.{method_debug}
use Rattle.debug_readers.proofs.lines.debug.Goals as goal

pub returns-in_err-spot : goal.returns-in_err-spot
unfolding method_debug
returns-in_err-spot c = search laws

pub returns-in_default : goal.returns-in_default
unfolding method_debug
returns-in_default c = search laws

pub returns : goal.returns
unfolding method_debug
returns c = search laws
