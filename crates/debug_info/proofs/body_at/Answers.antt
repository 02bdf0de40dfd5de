use Rattle.debug_info.proofs.Laws.{stage_laws as laws}
use Rattle.debug_info.specs.Debug.{body_at}
use Rattle.debug_info.proofs.body_at.Goals as goal

pub overflow_sub-result : goal.overflow_sub-result
overflow_sub-result c = search laws depth 7

pub returns-in_err-name : goal.returns-in_err-name
unfolding body_at
returns-in_err-name c = search laws depth 7

pub returns-in_err-zero : goal.returns-in_err-zero
unfolding body_at
returns-in_err-zero c = search laws depth 7

pub returns : goal.returns
unfolding body_at
returns c = search laws depth 7
