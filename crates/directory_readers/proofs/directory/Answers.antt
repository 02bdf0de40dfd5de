use Rattle.directory_readers.proofs.Laws.{laws}
use Rattle.directory_readers.specs.Directories.{directory}
use Rattle.directory_readers.proofs.directory.Goals as goal

pub returns-in_err-d : goal.returns-in_err-d
unfolding directory
returns-in_err-d c = search laws

pub returns : goal.returns
unfolding directory
returns c = search laws
