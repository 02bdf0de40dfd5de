use Rattle.text_order.proofs.Comparing.{laws}
use Rattle.text_order.proofs.key_of.Goals as goal

pub returns-then-b-eq192 : goal.returns-then-b-eq192
returns-then-b-eq192 c = search laws

pub returns : goal.returns
returns c = search laws
