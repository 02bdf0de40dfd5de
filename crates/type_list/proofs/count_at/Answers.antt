use Rattle.type_list.proofs.Laws.{list_laws as laws}
use Rattle.type_list.proofs.count_at.Goals as goal

pub returns-in_err-count : goal.returns-in_err-count
returns-in_err-count c = search laws

pub returns-in_err-all : goal.returns-in_err-all
returns-in_err-all c = search (laws, c.in_ok-count.ensures)

pub returns : goal.returns
returns c = search (laws, c.in_ok-count.ensures, c.in_ok-all.ensures)
