use Rattle.static_fields.proofs.PairLaws.{some_laws as laws}
use Rattle.static_fields.proofs.pairs.field_some.Goals as goal

pub returns-then-fields-k : goal.returns-then-fields-k
returns-then-fields-k c = search laws

pub returns-then-count-fields : goal.returns-then-count-fields
returns-then-count-fields c = search laws

pub returns-in_err-counts : goal.returns-in_err-counts
returns-in_err-counts c = search laws

pub returns-in_err-count : goal.returns-in_err-count
returns-in_err-count c = search laws

pub returns : goal.returns
returns c = search laws
