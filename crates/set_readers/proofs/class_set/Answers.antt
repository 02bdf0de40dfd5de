use Rattle.set_readers.proofs.Laws.{laws}
use Rattle.set_readers.specs.Sets.{class_set}
use Rattle.set_readers.proofs.class_set.Goals as goal

pub returns-in_err-d : goal.returns-in_err-d
unfolding class_set
returns-in_err-d c = search laws

pub returns : goal.returns
unfolding class_set
returns c = search laws
