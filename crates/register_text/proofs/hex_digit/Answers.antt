use Rattle.register_text.proofs.Laws.{hex_laws as laws}
use Rattle.register_text.proofs.hex_digit.Goals as goal

pub returns-then-d-lt10 : goal.returns-then-d-lt10
returns-then-d-lt10 c = search laws

pub returns : goal.returns
returns c = search laws
