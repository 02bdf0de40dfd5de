use Rattle.value_readers.proofs.Laws.{laws}
use Rattle.value_readers.specs.Statics.{value_under}
use Rattle.value_readers.proofs.statics.value_under.Goals as goal

pub returns-in_err-found : goal.returns-in_err-found
unfolding value_under
returns-in_err-found c = search laws

pub returns : goal.returns
unfolding value_under
returns c = search laws
