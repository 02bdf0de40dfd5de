use Rattle.type_list.proofs.Laws.{below_laws as laws}
use Rattle.type_list.specs.Below.{list_count}
use Rattle.type_list.proofs.list_count.Goals as goal

pub returns-then-at-gt0 : goal.returns-then-at-gt0
unfolding list_count
returns-then-at-gt0 c = search laws

pub returns : goal.returns
unfolding list_count
returns c = search laws
