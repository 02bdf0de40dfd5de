use Rattle.decoded_value.proofs.Laws.{body_laws as laws}
use Rattle.decoded_value.proofs.annotation_at.Goals as goal

pub overflow_sub-result : goal.overflow_sub-result
overflow_sub-result c = search laws

pub returns-in_err-end : goal.returns-in_err-end
returns-in_err-end c = search laws

pub overflow_sub-result-2 : goal.overflow_sub-result-2
overflow_sub-result-2 c = search laws

pub returns : goal.returns
returns c = search laws
