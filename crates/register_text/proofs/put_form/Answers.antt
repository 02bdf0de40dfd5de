use Rattle.register_text.proofs.Laws.{form_laws as laws}
use Rattle.register_text.proofs.put_form.Goals as goal

pub put_escape-requires : goal.put_escape-requires
put_escape-requires c = search laws

pub returns-then-is_special : goal.returns-then-is_special
returns-then-is_special c = search laws

pub put_byte-requires : goal.put_byte-requires
put_byte-requires c = search laws

pub returns : goal.returns
returns c = search laws
