use Rattle.register_text.proofs.Laws.{sign_laws as laws}
use Rattle.register_text.proofs.is_key_sign.Goals as goal

pub returns-then-b-eq46 : goal.returns-then-b-eq46
returns-then-b-eq46 c = search laws

pub returns-then-b-eq91 : goal.returns-then-b-eq91
returns-then-b-eq91 c = search laws

pub returns-then-b-eq93 : goal.returns-then-b-eq93
returns-then-b-eq93 c = search laws

pub returns : goal.returns
returns c = search laws
