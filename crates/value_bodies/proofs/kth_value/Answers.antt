use Rattle.value_bodies.proofs.Laws.{there_laws as laws}
use Rattle.value_bodies.specs.Bodies.{kth_value, value_there}
use Rattle.value_bodies.proofs.kth_value.Goals as goal

pub returns-in_err-at : goal.returns-in_err-at
unfolding kth_value value_there
returns-in_err-at c = search laws

pub returns-in_err-value : goal.returns-in_err-value
unfolding kth_value value_there
returns-in_err-value c = search (laws, c.in_ok-at.ensures)

pub returns : goal.returns
unfolding kth_value value_there
returns c = search (laws, c.in_ok-at.ensures)
