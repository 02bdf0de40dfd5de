use Rattle.annotation_directories.proofs.Laws.{head_laws as laws}
use Rattle.annotation_directories.specs.Directories.{head_at}
use Rattle.annotation_directories.proofs.head_at.Goals as goal

pub counts_at-requires : goal.counts_at-requires
counts_at-requires c = search (laws, c.in_ok-set.ensures) depth 7

pub returns-in_err-set : goal.returns-in_err-set
unfolding head_at
returns-in_err-set c = search laws depth 7

pub returns-then-is_allowed_or_absent : goal.returns-then-is_allowed_or_absent
unfolding head_at
returns-then-is_allowed_or_absent c = search (laws, c.in_ok-set.ensures) depth 7

pub returns : goal.returns
unfolding head_at
returns c = search (laws, c.in_ok-set.ensures) depth 7
