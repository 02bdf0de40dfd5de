use Rattle.debug_info.proofs.Laws.{stage_laws as laws}
use Rattle.debug_info.proofs.name_at.Goals as goal

pub returns-then-k-names : goal.returns-then-k-names
returns-then-k-names c = search laws depth 7

pub returns-in_err-names : goal.returns-in_err-names
returns-in_err-names c = search laws depth 7

pub returns : goal.returns
returns c = search laws depth 7
