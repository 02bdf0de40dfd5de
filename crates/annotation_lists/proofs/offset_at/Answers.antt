use Rattle.annotation_lists.proofs.Laws.{word_laws as laws}
use Rattle.annotation_lists.specs.Offsets.{offset_of}
use Rattle.annotation_lists.proofs.offset_at.Goals as goal

pub returns-then-is_offset : goal.returns-then-is_offset
unfolding offset_of
returns-then-is_offset c = search laws

pub returns : goal.returns
unfolding offset_of
returns c = search laws
