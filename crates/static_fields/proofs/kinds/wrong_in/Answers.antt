use Rattle.static_fields.proofs.KindLaws.{laws}
use Rattle.static_fields.specs.Pairing.{wrong_in}
use Rattle.static_fields.proofs.kinds.wrong_in.Goals as goal

pub returns-in_err-found : goal.returns-in_err-found
unfolding wrong_in
returns-in_err-found c = search laws

pub returns : goal.returns
unfolding wrong_in
returns c = search laws
