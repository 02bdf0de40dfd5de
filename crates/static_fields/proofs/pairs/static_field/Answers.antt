use Rattle.static_fields.proofs.PairLaws.{laws}
use Rattle.static_fields.specs.Pairing.{static_field}
use Rattle.static_fields.proofs.pairs.static_field.Goals as goal

pub returns-in_err-o : goal.returns-in_err-o
unfolding static_field
returns-in_err-o c = search laws

pub returns : goal.returns
unfolding static_field
returns c = search laws
