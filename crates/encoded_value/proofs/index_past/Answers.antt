use Rattle.encoded_value.proofs.Leaves.{index_laws as laws}
use Rattle.encoded_value.proofs.index_past.Goals as goal

pub returns : goal.returns
returns c = search laws

pub returns-in_err-next : goal.returns-in_err-next
returns-in_err-next c = search laws

pub returns-then-named : goal.returns-then-named
returns-then-named c = search laws
