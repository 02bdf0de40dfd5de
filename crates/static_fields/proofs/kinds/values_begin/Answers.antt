use Rattle.static_fields.proofs.KindLaws.{begin_laws as laws}
use Rattle.static_fields.specs.Stages.{values_begin}
use Rattle.static_fields.proofs.kinds.values_begin.Goals as goal

pub returns-in_err-count : goal.returns-in_err-count
unfolding values_begin
returns-in_err-count c = search laws

pub returns-in_err-next : goal.returns-in_err-next
unfolding values_begin
returns-in_err-next c = search laws

pub returns : goal.returns
unfolding values_begin
returns c = search laws
