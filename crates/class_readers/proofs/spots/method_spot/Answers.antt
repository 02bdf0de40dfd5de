use Rattle.class_readers.proofs.SpotLaws.{laws}
use Rattle.class_readers.specs.Spots.{method_spot}
use Rattle.class_readers.proofs.spots.method_spot.Goals as goal

pub returns-in_err-spot : goal.returns-in_err-spot
unfolding method_spot
returns-in_err-spot c = search laws

pub returns-in_default : goal.returns-in_default
unfolding method_spot
returns-in_default c = search laws

pub returns : goal.returns
unfolding method_spot
returns c = search laws
