use Rattle.frame.proofs.Laws.{laws}
use Rattle.frame.proofs.is_allowed.Goals as goal

pub returns-then-offset-start : goal.returns-then-offset-start
returns-then-offset-start c = search laws

pub returns-then-end-offset : goal.returns-then-end-offset
returns-then-end-offset c = search laws

pub returns-then-four : goal.returns-then-four
returns-then-four c = search laws

pub returns : goal.returns
returns c = search laws
