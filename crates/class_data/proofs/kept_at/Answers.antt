use Rattle.class_data.proofs.Laws.{stage_laws as laws}
use Rattle.class_data.specs.Data.{kept_data_at}
use Rattle.class_data.proofs.kept_at.Goals as goal

pub returns-in_err-counts : goal.returns-in_err-counts
unfolding kept_data_at
returns-in_err-counts c = search laws depth 9

pub returns-in_err-statics : goal.returns-in_err-statics
unfolding kept_data_at
returns-in_err-statics c = search laws depth 9

pub returns-in_err-directs : goal.returns-in_err-directs
unfolding kept_data_at
returns-in_err-directs c = search laws depth 9

pub returns : goal.returns
unfolding kept_data_at
returns c = search laws depth 9
