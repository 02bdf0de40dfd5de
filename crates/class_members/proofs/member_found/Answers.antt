use Rattle.class_members.proofs.Laws.{part_laws as laws}
use Rattle.class_members.specs.Members.{member_at}
use Rattle.class_members.proofs.member_found.Goals as goal

pub returns-then-index-j : goal.returns-then-index-j
unfolding member_at
returns-then-index-j c = search laws depth 7

pub returns-then-is_apart : goal.returns-then-is_apart
unfolding member_at
returns-then-is_apart c = search laws depth 7

pub returns-in_err-value : goal.returns-in_err-value
unfolding member_at
returns-in_err-value c = search laws depth 7

pub returns : goal.returns
unfolding member_at
returns c = search laws depth 7
