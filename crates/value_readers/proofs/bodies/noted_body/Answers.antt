use Rattle.value_readers.proofs.Laws.{body_laws as laws}
use Rattle.value_readers.specs.Bodies.{noted_body}
use Rattle.value_readers.proofs.bodies.noted_body.Goals as goal

pub overflow_sub-result : goal.overflow_sub-result
overflow_sub-result c = search laws

pub returns-in_err-type_index : goal.returns-in_err-type_index
unfolding noted_body
returns-in_err-type_index c = search laws

pub returns-in_err-end : goal.returns-in_err-end
unfolding noted_body
returns-in_err-end c = search laws

pub returns : goal.returns
unfolding noted_body
returns c = search laws
