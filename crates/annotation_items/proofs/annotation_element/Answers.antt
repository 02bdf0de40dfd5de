use Rattle.annotation_items.proofs.Laws.{laws}
use Rattle.annotation_items.proofs.annotation_element.Goals as goal

pub overflow_add-item : goal.overflow_add-item
overflow_add-item c = search (laws, c.in_ok-visibility_at.ensures) depth 7

pub returns-in_err-visibility_at : goal.returns-in_err-visibility_at
returns-in_err-visibility_at c = search laws depth 7

pub returns : goal.returns
returns c = search (laws, c.in_ok-visibility_at.ensures) depth 7
