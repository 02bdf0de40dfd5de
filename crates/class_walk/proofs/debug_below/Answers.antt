use Rattle.class_walk.proofs.Laws.{body_laws as laws}
use Rattle.class_walk.proofs.debug_below.Goals as goal

pub returns-then-offset-le0 : goal.returns-then-offset-le0
returns-then-offset-le0 c = search laws depth 7

pub returns-in_err-debug_at : goal.returns-in_err-debug_at
returns-in_err-debug_at c = search laws depth 7

pub returns : goal.returns
returns c = search laws depth 7
