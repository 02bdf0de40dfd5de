use Rattle.set_readers.proofs.Laws.{framed as laws}
use Rattle.set_readers.specs.Sets.{parameter_set_in}
use Rattle.set_readers.proofs.parameter_set_in.Goals as goal

pub returns-in_err-place : goal.returns-in_err-place
unfolding parameter_set_in
returns-in_err-place c = search laws

pub returns : goal.returns
unfolding parameter_set_in
returns c = search laws
