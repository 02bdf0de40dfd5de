use Rattle.directory_readers.proofs.Laws.{laws}
use Rattle.directory_readers.specs.Directories.{entry_number}
use Rattle.directory_readers.proofs.entry_of.Goals as goal

pub returns-in_err-d : goal.returns-in_err-d
unfolding entry_number
returns-in_err-d c = search laws

pub returns : goal.returns
unfolding entry_number
returns c = search laws
