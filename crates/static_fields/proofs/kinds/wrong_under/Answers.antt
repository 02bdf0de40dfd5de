use Rattle.static_fields.proofs.KindLaws.{under_laws as laws}
use Rattle.static_fields.proofs.kinds.wrong_under.Goals as goal

pub returns-then-count-fields : goal.returns-then-count-fields
returns-then-count-fields c = search laws

pub returns-in_err-fields : goal.returns-in_err-fields
returns-in_err-fields c = search laws

pub returns-in_err-count : goal.returns-in_err-count
returns-in_err-count c = search laws

pub returns : goal.returns
returns c = search laws
