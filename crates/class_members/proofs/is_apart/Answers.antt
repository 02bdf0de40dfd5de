use Rattle.class_members.proofs.Laws.{part_laws as laws}
use Rattle.class_members.specs.Members.{apart}
use Rattle.class_members.proofs.is_apart.Goals as goal

pub returns-then-later : goal.returns-then-later
unfolding apart
returns-then-later c = search laws

pub returns : goal.returns
unfolding apart
returns c = search laws
