use Rattle.class_data.proofs.Laws.{stage_laws as laws}
use Rattle.class_data.proofs.member_at.Goals as goal

pub returns-then-k-count : goal.returns-then-k-count
returns-then-k-count c = search laws depth 7

pub returns-in_err-counts : goal.returns-in_err-counts
returns-in_err-counts c = search laws depth 7

pub returns : goal.returns
returns c = search laws depth 7
