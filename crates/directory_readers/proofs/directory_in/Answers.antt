use Rattle.directory_readers.proofs.Laws.{laws}
use Rattle.directory_readers.specs.Directories.{directory_in}
use Rattle.directory_readers.proofs.directory_in.Goals as goal

pub returns-in_err-found : goal.returns-in_err-found
unfolding directory_in
returns-in_err-found c = search laws

pub returns : goal.returns
unfolding directory_in
returns c = search laws
