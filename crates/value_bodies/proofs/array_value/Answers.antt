use Rattle.value_bodies.proofs.Laws.{array_laws as laws}
use Rattle.value_bodies.proofs.array_value.Goals as goal

pub returns-in_err-top_array : goal.returns-in_err-top_array
returns-in_err-top_array c = search laws

pub returns-in_err-count : goal.returns-in_err-count
returns-in_err-count c = search (laws, c.in_ok-top_array.ensures)

pub returns-then-k-count : goal.returns-then-k-count
returns-then-k-count c = search (laws, c.in_ok-top_array.ensures, c.in_ok-count.ensures)

pub returns : goal.returns
returns c = search (laws, c.in_ok-top_array.ensures, c.in_ok-count.ensures)
