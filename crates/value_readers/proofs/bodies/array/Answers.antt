use Rattle.value_readers.proofs.Laws.{placed as laws}
use Rattle.value_readers.specs.Bodies.{array_of}
use Rattle.value_readers.proofs.bodies.array.Goals as goal

pub returns-in_err-o : goal.returns-in_err-o
unfolding array_of
returns-in_err-o c = search laws

pub returns : goal.returns
unfolding array_of
returns c = search laws
