use Rattle.set_readers.proofs.Laws.{laws}
use Rattle.set_readers.specs.Sets.{parameter_set_count}
use Rattle.set_readers.proofs.parameter_set_count.Goals as goal

pub returns-in_err-l : goal.returns-in_err-l
unfolding parameter_set_count
returns-in_err-l c = search laws

pub returns : goal.returns
unfolding parameter_set_count
returns c = search laws
