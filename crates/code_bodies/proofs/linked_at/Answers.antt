use Rattle.code_bodies.proofs.Stages.{stage_laws as laws}
use Rattle.code_bodies.specs.Code.{linked_stage}
use Rattle.code_bodies.proofs.linked_at.Goals as goal

pub returns-in_err-count : goal.returns-in_err-count
unfolding linked_stage
returns-in_err-count c = search laws depth 7

pub returns-in_err-link : goal.returns-in_err-link
unfolding linked_stage
returns-in_err-link c = search laws depth 7

pub returns : goal.returns
unfolding linked_stage
returns c = search laws depth 7
