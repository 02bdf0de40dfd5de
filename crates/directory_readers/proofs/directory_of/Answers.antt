use Rattle.directory_readers.proofs.Laws.{laws}
use Rattle.directory_readers.specs.Directories.{directory_of}
use Rattle.directory_readers.proofs.directory_of.Goals as goal

pub returns-in_err-header : goal.returns-in_err-header
unfolding directory_of
returns-in_err-header c = search laws

pub returns : goal.returns
unfolding directory_of
returns c = search laws
