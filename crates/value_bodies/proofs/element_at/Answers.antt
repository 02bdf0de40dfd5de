use Rattle.value_bodies.proofs.Laws.{there_laws as laws}
use Rattle.value_bodies.specs.Bodies.{element_there}
use Rattle.value_bodies.proofs.element_at.Goals as goal

pub returns-in_err-name : goal.returns-in_err-name
unfolding element_there
returns-in_err-name c = search laws

pub returns-in_err-value : goal.returns-in_err-value
unfolding element_there
returns-in_err-value c = search (laws, c.in_ok-name.ensures)

pub returns : goal.returns
unfolding element_there
returns c = search (laws, c.in_ok-name.ensures)
