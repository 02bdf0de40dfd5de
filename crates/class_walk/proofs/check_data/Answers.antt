use Rattle.class_walk.proofs.Laws.{data_laws as laws}
use Rattle.class_walk.proofs.check_data.Goals as goal

pub returns-in_err-m : goal.returns-in_err-m
returns-in_err-m c = search laws depth 7

pub returns : goal.returns
returns c = search laws depth 7
