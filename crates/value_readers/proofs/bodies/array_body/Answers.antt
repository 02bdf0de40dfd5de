use Rattle.value_readers.proofs.Laws.{body_laws as laws}
use Rattle.value_readers.specs.Bodies.{array_body}
use Rattle.value_readers.proofs.bodies.array_body.Goals as goal

pub overflow_sub-result : goal.overflow_sub-result
overflow_sub-result c = search laws

pub returns-in_err-count : goal.returns-in_err-count
unfolding array_body
returns-in_err-count c = search laws

pub returns-in_err-end : goal.returns-in_err-end
unfolding array_body
returns-in_err-end c = search laws

pub returns : goal.returns
unfolding array_body
returns c = search laws
