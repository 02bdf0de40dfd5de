use Rattle.value_readers.proofs.Laws.{laws}
use Rattle.value_readers.specs.Statics.{static_count}
use Rattle.value_readers.proofs.statics.static_value_count.Goals as goal

pub returns-in_err-o : goal.returns-in_err-o
unfolding static_count
returns-in_err-o c = search laws

pub returns : goal.returns
unfolding static_count
returns c = search laws
