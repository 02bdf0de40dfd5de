use Rattle.static_fields.proofs.KindLaws.{from_laws as laws}
use Rattle.static_fields.specs.Stages.{fields_from}
use Rattle.static_fields.proofs.kinds.fields_from.Goals as goal

pub returns-then-at-gt0 : goal.returns-then-at-gt0
unfolding fields_from
returns-then-at-gt0 c = search laws

pub returns : goal.returns
unfolding fields_from
returns c = search laws
