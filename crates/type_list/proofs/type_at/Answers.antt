use Rattle.type_list.proofs.Laws.{list_laws as laws}
use Rattle.type_list.specs.TypeList.{number_at}
use Rattle.type_list.proofs.type_at.Goals as goal

pub returns-then-k-count : goal.returns-then-k-count
unfolding number_at
returns-then-k-count c = search laws

pub returns-in_err-count : goal.returns-in_err-count
unfolding number_at
returns-in_err-count c = search laws

pub returns : goal.returns
unfolding number_at
returns c = search laws
