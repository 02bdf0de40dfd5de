use Rattle.value_bodies.proofs.Laws.{array_laws as laws}
use Rattle.value_bodies.proofs.array_count.Goals as goal

pub returns-in_err-top_array : goal.returns-in_err-top_array
returns-in_err-top_array c = search laws

pub returns-in_err-value : goal.returns-in_err-value
returns-in_err-value c = search (laws, c.in_ok-top_array.ensures)

pub returns : goal.returns
returns c = search (laws, c.in_ok-top_array.ensures, c.in_ok-value.ensures)
