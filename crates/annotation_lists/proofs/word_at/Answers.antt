use Rattle.annotation_lists.proofs.Laws.{word_laws as laws}
use Rattle.annotation_lists.specs.Offsets.{word_at}
use Rattle.annotation_lists.proofs.word_at.Goals as goal

pub returns-then-has_room : goal.returns-then-has_room
unfolding word_at
returns-then-has_room c = search laws

pub returns : goal.returns
unfolding word_at
returns c = search laws
