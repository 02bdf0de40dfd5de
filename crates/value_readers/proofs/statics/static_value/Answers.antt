use Rattle.value_readers.proofs.Laws.{laws}
use Rattle.value_readers.specs.Statics.{static_value}
use Rattle.value_readers.proofs.statics.static_value.Goals as goal

pub returns-in_err-o : goal.returns-in_err-o
unfolding static_value
returns-in_err-o c = search laws

pub returns : goal.returns
unfolding static_value
returns c = search laws
