use Rattle.string_ids.proofs.Laws.{order_laws as laws}
use Rattle.string_ids.proofs.rises.Goals as goal

pub returns-in-None : goal.returns-in-None
returns-in-None c = search laws

pub returns-in-Some : goal.returns-in-Some
returns-in-Some c = search laws
