use Rattle.handlers.proofs.Laws.{sign_laws as laws}
use Rattle.handlers.proofs.is_catching.Goals as goal

pub returns-then-size-gt0 : goal.returns-then-size-gt0
returns-then-size-gt0 c = search laws

pub returns : goal.returns
returns c = search laws
