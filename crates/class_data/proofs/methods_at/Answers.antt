use Rattle.class_data.proofs.Laws.{stage_laws as laws}
use Rattle.class_data.proofs.methods_at.Goals as goal

pub returns-in_err-counts : goal.returns-in_err-counts
returns-in_err-counts c = search laws depth 9

pub returns-in_err-from : goal.returns-in_err-from
returns-in_err-from c = search laws depth 9

pub returns : goal.returns
returns c = search laws depth 9
