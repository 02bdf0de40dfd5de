use Rattle.class_members.proofs.Laws.{part_laws as laws}
use Rattle.class_members.specs.Members.{code_at}
use Rattle.class_members.proofs.code_at.Goals as goal

pub returns-then-code : goal.returns-then-code
unfolding code_at
returns-then-code c = search laws depth 7

pub returns : goal.returns
unfolding code_at
returns c = search laws depth 7
