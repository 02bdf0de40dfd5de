use Rattle.annotation_lists.proofs.Laws.{word_laws as laws}
use Rattle.annotation_lists.specs.Offsets.{offset_allowed}
use Rattle.annotation_lists.proofs.is_offset.Goals as goal

pub returns-then-absent : goal.returns-then-absent
unfolding offset_allowed
returns-then-absent c = search laws

pub returns : goal.returns
unfolding offset_allowed
returns c = search laws
