use Rattle.map_list.proofs.Laws.{list_laws as laws}
use Rattle.map_list.proofs.list_at.Goals as goal

pub overflow_add-j : goal.overflow_add-j
overflow_add-j c = search (laws, c.in_ok-count.ensures)

pub scan-requires : goal.scan-requires
scan-requires c = search (laws, c.in_ok-count.ensures)

pub returns-in_err-count : goal.returns-in_err-count
returns-in_err-count c = search laws

pub returns-in_err-handles : goal.returns-in_err-handles
returns-in_err-handles c = search (laws, c.in_ok-count.ensures)

pub returns : goal.returns
returns c = search (laws, c.in_ok-count.ensures, c.in_ok-handles.ensures)
