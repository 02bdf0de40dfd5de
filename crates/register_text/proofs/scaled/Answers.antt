use Rattle.register_text.proofs.WholeLaws.{scaled_laws as laws}
use Rattle.register_text.proofs.scaled.Goals as goal

pub returns-in_err-magnitude : goal.returns-in_err-magnitude
returns-in_err-magnitude c = search laws

pub returns : goal.returns
returns c = search laws
