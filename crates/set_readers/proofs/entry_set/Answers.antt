use Rattle.set_readers.proofs.Laws.{laws}
use Rattle.set_readers.specs.Sets.{entry_set}
use Rattle.set_readers.proofs.entry_set.Goals as goal

pub returns-in_err-d : goal.returns-in_err-d
unfolding entry_set
returns-in_err-d c = search laws

pub returns : goal.returns
unfolding entry_set
returns c = search laws
