use Rattle.static_fields.proofs.KindLaws.{begin_laws as laws}
use Rattle.static_fields.specs.Stages.{fields_begin}
use Rattle.static_fields.proofs.kinds.fields_begin.Goals as goal

pub returns-in_err-class_data_at : goal.returns-in_err-class_data_at
unfolding fields_begin
returns-in_err-class_data_at c = search laws

pub returns-in_err-counts : goal.returns-in_err-counts
unfolding fields_begin
returns-in_err-counts c = search laws

pub returns : goal.returns
unfolding fields_begin
returns c = search laws
