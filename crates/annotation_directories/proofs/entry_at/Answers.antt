use Rattle.annotation_directories.proofs.Laws.{entry_laws as laws}
use Rattle.annotation_directories.specs.Directories.{entry_of}
use Rattle.annotation_directories.proofs.entry_at.Goals as goal

pub returns-then-is_allowed : goal.returns-then-is_allowed
unfolding entry_of
returns-then-is_allowed c = search laws

pub returns-then-index-limit : goal.returns-then-index-limit
unfolding entry_of
returns-then-index-limit c = search laws

pub returns : goal.returns
unfolding entry_of
returns c = search laws
