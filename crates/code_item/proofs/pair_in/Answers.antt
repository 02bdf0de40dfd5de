use Rattle.code_item.proofs.Laws.{part_laws as laws}
use Rattle.code_item.specs.Code.{pair_in}
use Rattle.code_item.proofs.pair_in.Goals as goal

pub returns-then-k-b : goal.returns-then-k-b
unfolding pair_in
returns-then-k-b c = search laws

pub returns : goal.returns
unfolding pair_in
returns c = search laws
