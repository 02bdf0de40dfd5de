use Rattle.annotation_directories.proofs.Laws.{kth_laws as laws}
use Rattle.annotation_directories.proofs.directory_entry.Goals as goal

pub returns-in_err-h : goal.returns-in_err-h
returns-in_err-h c = search laws

pub overflow_add-item : goal.overflow_add-item
overflow_add-item c = search (laws, c.in_ok-h.ensures)

pub overflow_add-before : goal.overflow_add-before
overflow_add-before c = search (laws, c.in_ok-h.ensures)

pub overflow_mul-before : goal.overflow_mul-before
overflow_mul-before c = search (laws, c.in_ok-h.ensures)

pub overflow_add-item-then-k-count_of : goal.overflow_add-item-then-k-count_of
overflow_add-item-then-k-count_of c = search (laws, c.in_ok-h.ensures)

pub entry_at-requires : goal.entry_at-requires
entry_at-requires c = search (laws, c.in_ok-h.ensures)

pub returns-then-k-count_of : goal.returns-then-k-count_of
returns-then-k-count_of c = search (laws, c.in_ok-h.ensures)

pub returns : goal.returns
returns c = search (laws, c.in_ok-h.ensures)
