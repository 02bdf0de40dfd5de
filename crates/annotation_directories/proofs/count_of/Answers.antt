use Rattle.annotation_directories.proofs.Laws.{number_laws as laws}
use Rattle.annotation_directories.specs.Directories.{count_of}
use Rattle.annotation_directories.proofs.count_of.Goals as goal

pub returns-in-0 : goal.returns-in-0
unfolding count_of
returns-in-0 c = search laws

pub returns-in-1 : goal.returns-in-1
unfolding count_of
returns-in-1 c = search laws

pub returns-in-2 : goal.returns-in-2
unfolding count_of
returns-in-2 c = search laws

pub returns-in_default : goal.returns-in_default
unfolding count_of
returns-in_default c = search laws
