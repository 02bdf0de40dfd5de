use Rattle.map_list.proofs.Laws.{entry_laws as laws}
use Rattle.map_list.proofs.handles_of.Goals as goal

pub returns-in-8 : goal.returns-in-8
returns-in-8 c = search laws

pub returns-in_default : goal.returns-in_default
returns-in_default c = search laws
