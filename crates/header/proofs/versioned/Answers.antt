use Rattle.header.proofs.Laws.{own_laws as laws}
use Rattle.header.proofs.versioned.Goals as goal

pub returns : goal.returns
returns c = search laws

pub returns-in_err-order : goal.returns-in_err-order
returns-in_err-order c = search laws

pub returns-then-version-gt0 : goal.returns-then-version-gt0
returns-then-version-gt0 c = search laws
