use Rattle.static_kinds.proofs.Laws.{suits_laws as laws}
use Rattle.static_kinds.proofs.is_suited.Goals as goal

pub returns-in-21-to-30 : goal.returns-in-21-to-30
returns-in-21-to-30 c = search laws

pub returns-in_default-matches : goal.returns-in_default-matches
returns-in_default-matches c = search laws

pub returns-in_default-matches-2 : goal.returns-in_default-matches-2
returns-in_default-matches-2 c = search laws

pub returns-in_default : goal.returns-in_default
returns-in_default c = search laws
