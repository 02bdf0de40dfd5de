use Rattle.class_data.proofs.Laws.{part_laws as laws}
use Rattle.class_data.specs.Data.{member_in}
use Rattle.class_data.proofs.member_in.Goals as goal

pub returns-in-0 : goal.returns-in-0
unfolding member_in
returns-in-0 c = search laws

pub returns-in-1 : goal.returns-in-1
unfolding member_in
returns-in-1 c = search laws

pub returns-in-2 : goal.returns-in-2
unfolding member_in
returns-in-2 c = search laws

pub returns-in-3 : goal.returns-in-3
unfolding member_in
returns-in-3 c = search laws

pub returns-in_default : goal.returns-in_default
unfolding member_in
returns-in_default c = search laws
