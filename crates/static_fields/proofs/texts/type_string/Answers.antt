use Rattle.static_fields.specs.Pairing.{type_string}
use Rattle.static_fields.proofs.TextLaws.{record_texts as laws}
use Rattle.static_fields.proofs.texts.type_string.Goals as goal

pub returns-in_err-m : goal.returns-in_err-m
unfolding type_string
returns-in_err-m c = search laws

pub returns : goal.returns
unfolding type_string
returns c = search laws
