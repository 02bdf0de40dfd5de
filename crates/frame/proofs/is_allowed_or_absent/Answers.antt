use Rattle.frame.proofs.Laws.{laws}
use Rattle.frame.proofs.is_allowed_or_absent.Goals as goal

pub returns-then-offset-eq0 : goal.returns-then-offset-eq0
returns-then-offset-eq0 c = search laws

pub returns : goal.returns
returns c = search laws
