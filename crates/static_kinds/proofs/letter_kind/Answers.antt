use Rattle.static_kinds.proofs.Laws.{letter_laws as laws}
use Rattle.static_kinds.proofs.letter_kind.Goals as goal

pub returns-in-90 : goal.returns-in-90
returns-in-90 c = search laws

pub returns-in-66 : goal.returns-in-66
returns-in-66 c = search laws

pub returns-in-83 : goal.returns-in-83
returns-in-83 c = search laws

pub returns-in-67 : goal.returns-in-67
returns-in-67 c = search laws

pub returns-in-73 : goal.returns-in-73
returns-in-73 c = search laws

pub returns-in-74 : goal.returns-in-74
returns-in-74 c = search laws

pub returns-in-70 : goal.returns-in-70
returns-in-70 c = search laws

pub returns-in-68 : goal.returns-in-68
returns-in-68 c = search laws

pub returns-in_default : goal.returns-in_default
returns-in_default c = search laws
