use Rattle.static_fields.proofs.PairLaws.{laws}
use Rattle.static_fields.specs.Pairing.{field_in}
use Rattle.static_fields.proofs.pairs.field_in.Goals as goal

pub returns-in_err-found : goal.returns-in_err-found
unfolding field_in
returns-in_err-found c = search laws

pub returns : goal.returns
unfolding field_in
returns c = search laws
