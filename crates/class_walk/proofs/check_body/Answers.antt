use Rattle.class_walk.proofs.Laws.{body_laws as laws}
use Rattle.class_walk.proofs.check_body.Goals as goal

pub returns-in_err-o : goal.returns-in_err-o
returns-in_err-o c = search laws depth 7

pub returns : goal.returns
returns c = search laws depth 7
