use Rattle.annotation_walk.proofs.Laws.{stage_laws as laws}
use Rattle.annotation_walk.specs.Below.{one_below}
use Rattle.annotation_walk.proofs.one_below.Goals as goal

pub returns-then-parameter : goal.returns-then-parameter
unfolding one_below
returns-then-parameter c = search laws

pub returns : goal.returns
unfolding one_below
returns c = search laws
