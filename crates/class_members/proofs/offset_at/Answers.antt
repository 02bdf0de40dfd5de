use Rattle.class_members.proofs.Laws.{part_laws as laws}
use Rattle.class_members.specs.Members.{offset_at}
use Rattle.class_members.proofs.offset_at.Goals as goal

pub returns-then-is_allowed_or_absent : goal.returns-then-is_allowed_or_absent
unfolding offset_at
returns-then-is_allowed_or_absent c = search laws depth 7

pub returns-in_err-value : goal.returns-in_err-value
unfolding offset_at
returns-in_err-value c = search laws depth 7

pub returns : goal.returns
unfolding offset_at
returns c = search laws depth 7
