use Rattle.value_readers.proofs.Laws.{placed as laws}
use Rattle.value_readers.specs.Bodies.{body_of}
use Rattle.value_readers.proofs.bodies.annotation_body.Goals as goal

pub returns-in_err-o : goal.returns-in_err-o
unfolding body_of
returns-in_err-o c = search laws

pub returns : goal.returns
unfolding body_of
returns c = search laws
