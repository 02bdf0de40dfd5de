use Rattle.class_members.proofs.Laws.{part_laws as laws}
use Rattle.class_members.specs.Members.{rest_at}
use Rattle.class_members.proofs.rest_at.Goals as goal

pub returns-in_err-flags : goal.returns-in_err-flags
unfolding rest_at
returns-in_err-flags c = search laws depth 7

pub returns-in_err-code : goal.returns-in_err-code
unfolding rest_at
returns-in_err-code c = search laws depth 7

pub returns : goal.returns
unfolding rest_at
returns c = search laws depth 7
