use Rattle.string_ids.proofs.Laws.{record_laws as laws}
use Rattle.string_ids.proofs.string_at.Goals as goal

pub returns-in_err-item : goal.returns-in_err-item
returns-in_err-item c = search laws

pub returns : goal.returns
returns c = search laws
