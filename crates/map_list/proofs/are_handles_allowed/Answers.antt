use Rattle.map_list.proofs.Laws.{entry_laws as laws}
use Rattle.map_list.proofs.are_handles_allowed.Goals as goal

pub returns-then-offset-lt112 : goal.returns-then-offset-lt112
returns-then-offset-lt112 c = search laws

pub returns-then-offset-ne0 : goal.returns-then-offset-ne0
returns-then-offset-ne0 c = search laws

pub returns : goal.returns
returns c = search laws
