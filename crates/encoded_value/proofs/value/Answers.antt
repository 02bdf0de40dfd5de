use Rattle.encoded_value.proofs.Cycle.{value_laws as laws}
use Rattle.encoded_value.proofs.value.Goals as goal
use Rattle.encoded_value.proofs.value.Goals.{in_default-via-then-code-lt28, in_default-via-else-code-lt28+else-code-lt30}

pub returns-in_err-head : goal.returns-in_err-head
returns-in_err-head c = search laws

pub overflow_add-at : goal.overflow_add-at
overflow_add-at c = search laws

pub overflow_add-at-in_default : goal.overflow_add-at-in_default
overflow_add-at-in_default c = search laws

pub returns-in-28 : goal.returns-in-28
returns-in-28 c = search (laws, c.in_ok-head.ensures)

pub returns-in_default : goal.returns-in_default
returns-in_default c = elim c.in_default.branch [
  | in_default-via-then-code-lt28 w ↦ search (laws, c.in_ok-head.ensures)
  | in_default-via-else-code-lt28+else-code-lt30 w ↦ search (laws, c.in_ok-head.ensures)
]
