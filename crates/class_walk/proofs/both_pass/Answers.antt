use Rattle.class_walk.proofs.Laws.{data_laws as laws}
use Rattle.class_walk.specs.Methods.{both_pass}
use Rattle.class_walk.proofs.both_pass.Goals as goal

pub returns-in_err-middle : goal.returns-in_err-middle
unfolding both_pass
returns-in_err-middle c = search laws depth 7

pub returns-in_err-methods_pass : goal.returns-in_err-methods_pass
unfolding both_pass
returns-in_err-methods_pass c = search laws depth 7

pub returns : goal.returns
unfolding both_pass
returns c = search laws depth 7
