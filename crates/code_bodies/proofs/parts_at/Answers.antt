use Rattle.code_bodies.proofs.Stages.{stage_laws as laws}
use Rattle.code_bodies.specs.Code.{parts_stage}
use Rattle.code_bodies.proofs.parts_at.Goals as goal

pub returns-in_err-attempt : goal.returns-in_err-attempt
unfolding parts_stage
returns-in_err-attempt c = search laws depth 7

pub returns : goal.returns
unfolding parts_stage
returns c = search laws depth 7
