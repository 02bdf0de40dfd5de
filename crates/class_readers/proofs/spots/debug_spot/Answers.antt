use Rattle.class_readers.proofs.SpotLaws.{laws}
use Rattle.class_readers.specs.Spots.{debug_spot}
use Rattle.class_readers.proofs.spots.debug_spot.Goals as goal

pub returns-in_err-spot : goal.returns-in_err-spot
unfolding debug_spot
returns-in_err-spot c = search laws

pub returns-in_default : goal.returns-in_default
unfolding debug_spot
returns-in_default c = search laws

pub returns : goal.returns
unfolding debug_spot
returns c = search laws
