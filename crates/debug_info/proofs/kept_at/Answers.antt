use Rattle.debug_info.proofs.Laws.{stage_laws as laws}
use Rattle.debug_info.specs.Debug.{kept_debug_at}
use Rattle.debug_info.proofs.kept_at.Goals as goal

pub returns-in_err-line : goal.returns-in_err-line
unfolding kept_debug_at
returns-in_err-line c = search laws depth 7

pub returns-in_err-count : goal.returns-in_err-count
unfolding kept_debug_at
returns-in_err-count c = search laws depth 7

pub returns : goal.returns
unfolding kept_debug_at
returns c = search laws depth 7
