use Rattle.text_order.proofs.Comparing.{laws}
use Rattle.text_order.proofs.earlier_of.Goals as goal

pub returns-then-key_of : goal.returns-then-key_of
returns-then-key_of c = search laws

pub returns : goal.returns
returns c = search laws
