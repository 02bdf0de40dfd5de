use Rattle.annotation_lists.proofs.Laws.{number_laws as laws}
use Rattle.annotation_lists.proofs.offset_number.Goals as goal

pub returns-in_err-count : goal.returns-in_err-count
returns-in_err-count c = search laws

pub overflow_add-item : goal.overflow_add-item
overflow_add-item c = search (laws, c.in_ok-count.ensures)

pub overflow_add-item-then-k-count : goal.overflow_add-item-then-k-count
overflow_add-item-then-k-count c = search (laws, c.in_ok-count.ensures)

pub returns-then-k-count : goal.returns-then-k-count
returns-then-k-count c = search (laws, c.in_ok-count.ensures)

pub returns : goal.returns
returns c = search (laws, c.in_ok-count.ensures)
