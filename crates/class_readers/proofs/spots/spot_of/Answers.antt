use Rattle.class_readers.proofs.SpotLaws.{laws}
use Rattle.class_readers.specs.Spots.{spot_at}
use Rattle.class_readers.proofs.spots.spot_of.Goals as goal

pub returns-then-at-gt0 : goal.returns-then-at-gt0
unfolding spot_at
returns-then-at-gt0 c = search laws

pub returns : goal.returns
unfolding spot_at
returns c = search laws
