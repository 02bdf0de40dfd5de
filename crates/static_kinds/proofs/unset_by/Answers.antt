use Rattle.static_kinds.proofs.Laws.{unset_laws as laws}
use Rattle.static_kinds.proofs.unset_by.Goals as goal

pub returns-in-31 : goal.returns-in-31
returns-in-31 c = search laws

pub returns-in-0 : goal.returns-in-0
returns-in-0 c = search laws

pub returns-in-2 : goal.returns-in-2
returns-in-2 c = search laws

pub returns-in-3 : goal.returns-in-3
returns-in-3 c = search laws

pub returns-in-4 : goal.returns-in-4
returns-in-4 c = search laws

pub returns-in-6 : goal.returns-in-6
returns-in-6 c = search laws

pub returns-in-16 : goal.returns-in-16
returns-in-16 c = search laws

pub returns-in-17 : goal.returns-in-17
returns-in-17 c = search laws

pub returns-in_default : goal.returns-in_default
returns-in_default c = search laws
