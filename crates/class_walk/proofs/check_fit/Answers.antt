use Rattle.class_walk.proofs.Laws.{fit_laws as laws}
use Rattle.class_walk.proofs.check_fit.Goals as goal

pub returns-then-stored-fields : goal.returns-then-stored-fields
returns-then-stored-fields c = search laws

pub returns : goal.returns
returns c = search laws
