use Rattle.code_item.proofs.Laws.{answer_laws as laws}
use Rattle.code_item.proofs.pair_at.Goals as goal

pub returns-then-h-handlers : goal.returns-then-h-handlers
returns-then-h-handlers c = search laws depth 7

pub returns-in_err-handlers : goal.returns-in_err-handlers
returns-in_err-handlers c = search laws depth 7

pub returns : goal.returns
returns c = search laws depth 7
