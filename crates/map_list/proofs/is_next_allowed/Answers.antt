use Rattle.map_list.proofs.Laws.{entry_laws as laws}
use Rattle.map_list.proofs.is_next_allowed.Goals as goal

pub returns-then-seen-ne0 : goal.returns-then-seen-ne0
returns-then-seen-ne0 c = search laws

pub returns : goal.returns
returns c = search laws

pub returns-then-e-floor : goal.returns-then-e-floor
returns-then-e-floor c = search laws
