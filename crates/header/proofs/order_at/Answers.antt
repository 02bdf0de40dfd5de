use Rattle.header.proofs.Laws.{own_laws as laws}
use Rattle.header.specs.Header.{order_at}
use Rattle.header.proofs.order_at.Goals as goal

pub returns-then-is_four : goal.returns-then-is_four
unfolding order_at
returns-then-is_four c = search laws

pub returns-then-is_four-2 : goal.returns-then-is_four-2
unfolding order_at
returns-then-is_four-2 c = search laws

pub returns : goal.returns
unfolding order_at
returns c = search laws
