use Rattle.annotation_directories.proofs.Laws.{number_laws as laws}
use Rattle.annotation_directories.specs.Directories.{limit_of}
use Rattle.annotation_directories.proofs.limit_of.Goals as goal

pub returns-in-0 : goal.returns-in-0
unfolding limit_of
returns-in-0 c = search laws

pub returns-in_default : goal.returns-in_default
unfolding limit_of
returns-in_default c = search laws
