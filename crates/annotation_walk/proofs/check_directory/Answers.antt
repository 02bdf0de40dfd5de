use Rattle.annotation_walk.proofs.Laws.{stage_laws as laws}
use Rattle.annotation_walk.specs.Below.{directory_below}
use Rattle.annotation_walk.proofs.check_directory.Goals as goal

pub returns-in_err-h : goal.returns-in_err-h
unfolding directory_below
returns-in_err-h c = search laws

pub lists_below-requires : goal.lists_below-requires
lists_below-requires c = search (laws, c.in_ok-h.ensures)

pub returns : goal.returns
unfolding directory_below
returns c = search (laws, c.in_ok-h.ensures)
