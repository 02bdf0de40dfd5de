use Rattle.static_fields.proofs.KindLaws.{from_laws as laws}
use Rattle.static_fields.specs.Stages.{values_from}
use Rattle.static_fields.proofs.kinds.values_from.Goals as goal

pub returns-then-at-gt0 : goal.returns-then-at-gt0
unfolding values_from
returns-then-at-gt0 c = search laws

pub returns : goal.returns
unfolding values_from
returns c = search laws
