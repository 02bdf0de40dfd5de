use Rattle.annotation_walk.proofs.Laws.{stage_laws as laws}
use Rattle.annotation_walk.specs.Below.{references_below}
use Rattle.annotation_walk.proofs.check_references.Goals as goal

pub returns-in_err-count : goal.returns-in_err-count
unfolding references_below
returns-in_err-count c = search laws

pub overflow_add-item : goal.overflow_add-item
overflow_add-item c = search (laws, c.in_ok-count.ensures)

pub sets_pass-requires : goal.sets_pass-requires
sets_pass-requires c = search (laws, c.in_ok-count.ensures)

pub returns : goal.returns
unfolding references_below
returns c = search (laws, c.in_ok-count.ensures)
