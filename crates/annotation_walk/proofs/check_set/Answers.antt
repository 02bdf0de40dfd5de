use Rattle.annotation_walk.proofs.Laws.{stage_laws as laws}
use Rattle.annotation_walk.specs.Below.{set_below}
use Rattle.annotation_walk.proofs.check_set.Goals as goal

pub returns-in_err-count : goal.returns-in_err-count
unfolding set_below
returns-in_err-count c = search laws

pub overflow_add-item : goal.overflow_add-item
overflow_add-item c = search (laws, c.in_ok-count.ensures)

pub items_pass-requires : goal.items_pass-requires
items_pass-requires c = search (laws, c.in_ok-count.ensures)

pub returns : goal.returns
unfolding set_below
returns c = search (laws, c.in_ok-count.ensures)
