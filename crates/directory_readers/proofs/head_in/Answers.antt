use Rattle.directory_readers.proofs.Laws.{framed as laws}
use Rattle.directory_readers.specs.Directories.{head_in}
use Rattle.directory_readers.proofs.head_in.Goals as goal

pub returns : goal.returns
unfolding head_in
returns c = search laws

pub returns-in_err-head : goal.returns-in_err-head
unfolding head_in
returns-in_err-head c = search laws

pub returns-then-at-gt0 : goal.returns-then-at-gt0
unfolding head_in
returns-then-at-gt0 c = search laws
