use Rattle.debug_info.proofs.Laws.{stage_laws as laws}
use Rattle.debug_info.proofs.debug_at.Goals as goal

pub returns-in_err-line : goal.returns-in_err-line
returns-in_err-line c = search laws depth 7

pub returns : goal.returns
returns c = search laws depth 7
