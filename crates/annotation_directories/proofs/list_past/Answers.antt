use Rattle.annotation_directories.proofs.Laws.{list_laws as laws}
use Rattle.annotation_directories.proofs.list_past.Goals as goal

pub returns-in_err-entries_pass : goal.returns-in_err-entries_pass
returns-in_err-entries_pass c = search laws

pub returns-then-has_room : goal.returns-then-has_room
returns-then-has_room c = search laws

pub returns : goal.returns
returns c = search laws
