use Rattle.map_list.proofs.Laws.{entry_laws as laws}
use Rattle.map_list.proofs.entry_at.Goals as goal

pub returns-then-s-at : goal.returns-then-s-at
returns-then-s-at c = search laws
