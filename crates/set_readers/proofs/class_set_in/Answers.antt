use Rattle.set_readers.proofs.Laws.{laws}
use Rattle.set_readers.specs.Sets.{class_set_in}
use Rattle.set_readers.proofs.class_set_in.Goals as goal

pub returns-in_err-head_in : goal.returns-in_err-head_in
unfolding class_set_in
returns-in_err-head_in c = search laws

pub returns-in-None : goal.returns-in-None
unfolding class_set_in
returns-in-None c = search laws

pub returns-in-Some : goal.returns-in-Some
unfolding class_set_in
returns-in-Some c = search laws
