use Rattle.value_bodies.proofs.Laws.{annotation_laws as laws}
use Rattle.value_bodies.proofs.annotation_head.Goals as goal

pub returns-in_err-top_annotation : goal.returns-in_err-top_annotation
returns-in_err-top_annotation c = search laws

pub returns-in_err-type_index : goal.returns-in_err-type_index
returns-in_err-type_index c = search (laws, c.in_ok-top_annotation.ensures)

pub returns-in_err-count : goal.returns-in_err-count
returns-in_err-count c = search (laws, c.in_ok-top_annotation.ensures, c.in_ok-type_index.ensures)

pub returns : goal.returns
returns c = search (laws, c.in_ok-top_annotation.ensures, c.in_ok-type_index.ensures, c.in_ok-count.ensures)
