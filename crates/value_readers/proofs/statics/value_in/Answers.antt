use Rattle.value_readers.proofs.Laws.{walked as laws}
use Rattle.value_readers.specs.Statics.{static_value_in}
use Rattle.value_readers.proofs.statics.value_in.Goals as goal

pub returns-then-at-gt0 : goal.returns-then-at-gt0
unfolding static_value_in
returns-then-at-gt0 c = search laws

pub returns : goal.returns
unfolding static_value_in
returns c = search laws
