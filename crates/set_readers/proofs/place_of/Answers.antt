use Rattle.set_readers.proofs.Laws.{laws}
use Rattle.set_readers.specs.Sets.{annotation_place}
use Rattle.set_readers.proofs.place_of.Goals as goal

pub returns-in_err-reached : goal.returns-in_err-reached
unfolding annotation_place
returns-in_err-reached c = search laws

pub returns : goal.returns
unfolding annotation_place
returns c = search laws
