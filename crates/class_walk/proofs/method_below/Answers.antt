use Rattle.class_walk.proofs.Laws.{body_laws as laws}
use Rattle.class_walk.proofs.method_below.Goals as goal

pub returns-then-code-le0 : goal.returns-then-code-le0
returns-then-code-le0 c = search laws depth 7

pub returns : goal.returns
returns c = search laws depth 7
