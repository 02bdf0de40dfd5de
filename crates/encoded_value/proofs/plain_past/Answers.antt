use Rattle.encoded_value.proofs.Leaves.{plain_laws as laws}
use Rattle.encoded_value.proofs.plain_past.Goals as goal

pub returns : goal.returns
returns c = search laws

pub returns-in_err-next : goal.returns-in_err-next
returns-in_err-next c = search laws

pub returns-then-is_index_code : goal.returns-then-is_index_code
returns-then-is_index_code c = search laws
