use Rattle.static_fields.proofs.PairLaws.{below_laws as laws}
use Rattle.static_fields.proofs.pairs.field_below.Goals as goal

pub returns-then-data-le0 : goal.returns-then-data-le0
returns-then-data-le0 c = search laws

pub returns : goal.returns
returns c = search laws
