use Rattle.annotation_lists.proofs.Laws.{count_laws as laws}
use Rattle.annotation_lists.proofs.offset_count.Goals as goal

pub returns-in_err-count : goal.returns-in_err-count
returns-in_err-count c = search laws

pub overflow_add-item : goal.overflow_add-item
overflow_add-item c = search (laws, c.in_ok-count.ensures)

pub offsets_pass-requires : goal.offsets_pass-requires
offsets_pass-requires c = search (laws, c.in_ok-count.ensures)

pub returns-in_err-offsets_pass : goal.returns-in_err-offsets_pass
returns-in_err-offsets_pass c = search (laws, c.in_ok-count.ensures)

pub returns : goal.returns
returns c = search (laws, c.in_ok-count.ensures)
