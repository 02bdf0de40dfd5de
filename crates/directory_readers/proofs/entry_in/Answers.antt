use Rattle.directory_readers.proofs.Laws.{framed as laws}
use Rattle.directory_readers.specs.Directories.{entry_in}
use Rattle.directory_readers.proofs.entry_in.Goals as goal

pub returns-then-at-gt0 : goal.returns-then-at-gt0
unfolding entry_in
returns-then-at-gt0 c = search laws

pub returns : goal.returns
unfolding entry_in
returns c = search laws
