use Rattle.class_readers.proofs.SpotLaws.{laws}
use Rattle.class_readers.specs.Spots.{data_spot}
use Rattle.class_readers.proofs.spots.data_spot.Goals as goal

pub returns-in_err-header : goal.returns-in_err-header
unfolding data_spot
returns-in_err-header c = search laws

pub returns : goal.returns
unfolding data_spot
returns c = search laws
