use Rattle.string_ids.proofs.Laws.{order_laws as laws}
use Rattle.string_ids.proofs.found_with.Goals as goal

pub returns-in-None : goal.returns-in-None
returns-in-None c = search laws

pub returns-in-None-2 : goal.returns-in-None-2
returns-in-None-2 c = search laws
