use Rattle.decoded_value.proofs.Laws.{value_laws as laws}
use Rattle.decoded_value.proofs.decode_at.Goals as goal

pub array_at-requires : goal.array_at-requires
array_at-requires c = search laws

pub annotation_at-requires : goal.annotation_at-requires
annotation_at-requires c = search laws

pub overflow_add-at : goal.overflow_add-at
overflow_add-at c = search laws

pub plain_of-requires : goal.plain_of-requires
plain_of-requires c = search laws

pub returns-in_err-head : goal.returns-in_err-head
returns-in_err-head c = search laws

pub returns-in_err-value-in_default : goal.returns-in_err-value-in_default
returns-in_err-value-in_default c = search laws

pub returns-in-28 : goal.returns-in-28
returns-in-28 c = search laws

pub returns-in-29 : goal.returns-in-29
returns-in-29 c = search laws

pub returns-in_ok-value-in_default : goal.returns-in_ok-value-in_default
returns-in_ok-value-in_default c = search laws
