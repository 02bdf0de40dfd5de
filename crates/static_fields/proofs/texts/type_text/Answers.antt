use Rattle.static_fields.proofs.TextLaws.{text_laws as laws}
use Rattle.static_fields.specs.Stages.{type_extent}
use Rattle.static_fields.proofs.texts.type_text.Goals as goal

pub returns-in_err-t : goal.returns-in_err-t
unfolding type_extent
returns-in_err-t c = search laws

pub returns : goal.returns
unfolding type_extent
returns c = search laws
