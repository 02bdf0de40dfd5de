use Rattle.decoded_value.proofs.Laws.{body_laws as laws}
use Rattle.decoded_value.proofs.array_at.Goals as goal

pub overflow_sub-result : goal.overflow_sub-result
overflow_sub-result c = search laws

pub returns-in_err-next : goal.returns-in_err-next
returns-in_err-next c = search laws

pub overflow_sub-result-2 : goal.overflow_sub-result-2
overflow_sub-result-2 c = search laws

pub returns : goal.returns
returns c = search laws
