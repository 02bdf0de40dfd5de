use Rattle.frame.proofs.Laws.{count_laws as laws}
use Rattle.frame.proofs.counted.Goals as goal

pub returns-then-has_room : goal.returns-then-has_room
returns-then-has_room c = search laws

pub returns : goal.returns
returns c = search laws
