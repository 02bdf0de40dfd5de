use Rattle.static_fields.proofs.KindLaws.{kind_laws as laws}
use Rattle.static_fields.proofs.kinds.kind_at.Goals as goal

pub returns-in_err-head : goal.returns-in_err-head
returns-in_err-head c = search laws

pub returns-in_err-next : goal.returns-in_err-next
returns-in_err-next c = search laws

pub returns : goal.returns
returns c = search laws
