use Rattle.code_item.proofs.Laws.{answer_laws as laws}
use Rattle.code_item.proofs.try_at.Goals as goal

pub returns-then-t-head : goal.returns-then-t-head
returns-then-t-head c = search laws depth 7

pub returns-in_err-head : goal.returns-in_err-head
returns-in_err-head c = search laws depth 7

pub returns : goal.returns
returns c = search laws depth 7
