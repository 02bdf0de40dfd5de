use Rattle.code_bodies.proofs.Stages.{stage_laws as laws}
use Rattle.code_bodies.specs.Code.{listed_stage}
use Rattle.code_bodies.proofs.listed_at.Goals as goal

pub returns-then-tries-gt0 : goal.returns-then-tries-gt0
unfolding listed_stage
returns-then-tries-gt0 c = search laws depth 7

pub returns : goal.returns
unfolding listed_stage
returns c = search laws depth 7
