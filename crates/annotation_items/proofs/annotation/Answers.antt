use Rattle.annotation_items.proofs.Laws.{laws}
use Rattle.annotation_items.proofs.annotation.Goals as goal

pub overflow_add-item : goal.overflow_add-item
overflow_add-item c = search (laws, c.in_ok-visibility.ensures) depth 7

pub returns-in_err-visibility : goal.returns-in_err-visibility
returns-in_err-visibility c = search laws depth 7

pub returns-in_err-type_index : goal.returns-in_err-type_index
returns-in_err-type_index c = search (laws, c.in_ok-visibility.ensures) depth 7

pub returns : goal.returns
returns c = search (laws, c.in_ok-visibility.ensures) depth 7
