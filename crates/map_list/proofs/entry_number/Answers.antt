use Rattle.map_list.proofs.Laws.{number_laws as laws}
use Rattle.map_list.proofs.entry_number.Goals as goal

pub returns : goal.returns
returns c = search laws

pub returns-then-s-header : goal.returns-then-s-header
returns-then-s-header c = search laws
