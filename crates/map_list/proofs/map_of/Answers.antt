use Rattle.map_list.proofs.Laws.{list_laws as laws}
use Rattle.map_list.proofs.map_of.Goals as goal

pub returns-then-is_allowed : goal.returns-then-is_allowed
returns-then-is_allowed c = search laws

pub returns : goal.returns
returns c = search laws
