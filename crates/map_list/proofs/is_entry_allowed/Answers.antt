use Rattle.map_list.proofs.Laws.{entry_laws as laws}
use Rattle.map_list.proofs.is_entry_allowed.Goals as goal

pub returns-in-7 : goal.returns-in-7
returns-in-7 c = search laws

pub returns-then-version-lt38 : goal.returns-then-version-lt38
returns-then-version-lt38 c = search laws

pub returns-else-version-lt38 : goal.returns-else-version-lt38
returns-else-version-lt38 c = search laws

pub returns-in_default : goal.returns-in_default
returns-in_default c = search laws
