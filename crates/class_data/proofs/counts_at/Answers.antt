use Rattle.class_data.proofs.Laws.{part_laws as laws}
use Rattle.class_data.specs.Data.{counts_at}
use Rattle.class_data.proofs.counts_at.Goals as goal

pub returns-in_err-statics : goal.returns-in_err-statics
unfolding counts_at
returns-in_err-statics c = search laws depth 7

pub returns-in_err-directs : goal.returns-in_err-directs
unfolding counts_at
returns-in_err-directs c = search laws depth 7

pub returns : goal.returns
unfolding counts_at
returns c = search laws depth 7
