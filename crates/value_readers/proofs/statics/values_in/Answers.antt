use Rattle.value_readers.proofs.Laws.{walked as laws}
use Rattle.value_readers.specs.Statics.{values_in}
use Rattle.value_readers.proofs.statics.values_in.Goals as goal

pub returns-then-at-gt0 : goal.returns-then-at-gt0
unfolding values_in
returns-then-at-gt0 c = search laws

pub returns : goal.returns
unfolding values_in
returns c = search laws
