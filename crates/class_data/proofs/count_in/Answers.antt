use Rattle.class_data.proofs.Laws.{part_laws as laws}
use Rattle.class_data.specs.Data.{count_in}
use Rattle.class_data.proofs.count_in.Goals as goal

pub returns-in-0 : goal.returns-in-0
unfolding count_in
returns-in-0 c = search laws

pub returns-in-1 : goal.returns-in-1
unfolding count_in
returns-in-1 c = search laws

pub returns-in-2 : goal.returns-in-2
unfolding count_in
returns-in-2 c = search laws

pub returns-in-3 : goal.returns-in-3
unfolding count_in
returns-in-3 c = search laws

pub returns-in_default : goal.returns-in_default
unfolding count_in
returns-in_default c = search laws
