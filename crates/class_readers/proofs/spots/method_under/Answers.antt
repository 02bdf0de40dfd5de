use Rattle.class_readers.proofs.SpotLaws.{under_laws as laws}
use Rattle.class_readers.specs.Spots.{method_under}
use Rattle.class_readers.proofs.spots.method_under.Goals as goal

pub returns-then-list-ge2 : goal.returns-then-list-ge2
unfolding method_under
returns-then-list-ge2 c = search laws

pub returns-in_err-m : goal.returns-in_err-m
unfolding method_under
returns-in_err-m c = search laws

pub returns : goal.returns
unfolding method_under
returns c = search laws
