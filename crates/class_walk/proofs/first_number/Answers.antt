use Rattle.class_walk.proofs.Laws.{first_laws as laws}
use Rattle.class_walk.proofs.first_number.Goals as goal

pub returns-then-at-le0 : goal.returns-then-at-le0
returns-then-at-le0 c = search laws

pub returns-in-Err : goal.returns-in-Err
returns-in-Err c = search laws

pub returns-in-Ok : goal.returns-in-Ok
returns-in-Ok c = search laws
