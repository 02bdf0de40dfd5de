use Rattle.value_readers.proofs.Laws.{laws}
use Rattle.value_readers.specs.Statics.{values_under}
use Rattle.value_readers.proofs.statics.values_under.Goals as goal

pub returns-in_err-found : goal.returns-in_err-found
unfolding values_under
returns-in_err-found c = search laws

pub returns : goal.returns
unfolding values_under
returns c = search laws
