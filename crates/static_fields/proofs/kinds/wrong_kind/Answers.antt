use Rattle.static_fields.proofs.KindLaws.{laws}
use Rattle.static_fields.specs.Pairing.{wrong_kind}
use Rattle.static_fields.proofs.kinds.wrong_kind.Goals as goal

pub returns-in_err-o : goal.returns-in_err-o
unfolding wrong_kind
returns-in_err-o c = search laws

pub returns : goal.returns
unfolding wrong_kind
returns c = search laws
