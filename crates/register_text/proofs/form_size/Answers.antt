use Rattle.register_text.proofs.Laws.{form_laws as laws}
use Rattle.register_text.proofs.form_size.Goals as goal

pub returns-then-is_special : goal.returns-then-is_special
returns-then-is_special c = search laws

pub returns : goal.returns
returns c = search laws
