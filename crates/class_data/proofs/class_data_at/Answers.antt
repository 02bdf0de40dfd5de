use Rattle.class_data.proofs.Laws.{stage_laws as laws}
use Rattle.class_data.proofs.class_data_at.Goals as goal

pub returns-in_err-counts : goal.returns-in_err-counts
returns-in_err-counts c = search laws depth 7

pub returns : goal.returns
returns c = search laws depth 7
