use Rattle.annotation_items.proofs.Laws.{laws}
use Rattle.annotation_items.specs.Items.{visibility_at}
use Rattle.annotation_items.proofs.visibility_at.Goals as goal

pub returns-then-s-item : goal.returns-then-s-item
unfolding visibility_at
returns-then-s-item c = search laws

pub returns-then-visibility-le2 : goal.returns-then-visibility-le2
unfolding visibility_at
returns-then-visibility-le2 c = search laws

pub returns : goal.returns
unfolding visibility_at
returns c = search laws
