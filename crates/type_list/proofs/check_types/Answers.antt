use Rattle.type_list.proofs.Laws.{below_laws as laws}
use Rattle.type_list.proofs.check_types.Goals as goal

pub returns-in_err-list_count : goal.returns-in_err-list_count
returns-in_err-list_count c = search laws

pub returns : goal.returns
returns c = search laws
