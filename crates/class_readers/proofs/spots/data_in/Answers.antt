use Rattle.class_readers.proofs.SpotLaws.{laws}
use Rattle.class_readers.specs.Spots.{data_in}
use Rattle.class_readers.proofs.spots.data_in.Goals as goal

pub returns-in_err-found : goal.returns-in_err-found
unfolding data_in
returns-in_err-found c = search laws

pub returns : goal.returns
unfolding data_in
returns c = search laws
