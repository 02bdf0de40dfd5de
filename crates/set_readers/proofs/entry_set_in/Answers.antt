use Rattle.set_readers.proofs.Laws.{laws}
use Rattle.set_readers.specs.Sets.{entry_set_in}
use Rattle.set_readers.proofs.entry_set_in.Goals as goal

pub returns-in_err-offset : goal.returns-in_err-offset
unfolding entry_set_in
returns-in_err-offset c = search laws

pub returns : goal.returns
unfolding entry_set_in
returns c = search laws
