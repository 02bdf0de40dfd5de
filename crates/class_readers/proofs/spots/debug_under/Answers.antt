use Rattle.class_readers.proofs.SpotLaws.{under_laws as laws}
use Rattle.class_readers.specs.Spots.{debug_under}
use Rattle.class_readers.proofs.spots.debug_under.Goals as goal

pub returns-in_err-o : goal.returns-in_err-o
unfolding debug_under
returns-in_err-o c = search laws

pub returns : goal.returns
unfolding debug_under
returns c = search laws
