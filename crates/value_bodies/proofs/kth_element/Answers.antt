use Rattle.value_bodies.proofs.Laws.{there_laws as laws}
use Rattle.value_bodies.specs.Bodies.{kth_element}
use Rattle.value_bodies.proofs.kth_element.Goals as goal

pub returns-in_err-at : goal.returns-in_err-at
unfolding kth_element
returns-in_err-at c = search laws

pub returns : goal.returns
unfolding kth_element
returns c = search (laws, c.in_ok-at.ensures)
