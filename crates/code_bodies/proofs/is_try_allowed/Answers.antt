use Rattle.code_bodies.proofs.Laws.{try_laws as laws}
use Rattle.code_bodies.proofs.is_try_allowed.Goals as goal

pub returns-then-start-floor : goal.returns-then-start-floor
returns-then-start-floor c = search laws

pub returns : goal.returns
returns c = search laws
