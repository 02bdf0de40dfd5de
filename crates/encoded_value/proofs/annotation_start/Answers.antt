use Rattle.encoded_value.proofs.Leaves.{start_laws as laws}
use Rattle.encoded_value.specs.Readings.{start_at}
use Rattle.encoded_value.proofs.annotation_start.Goals as goal

pub returns-in_err-next : goal.returns-in_err-next
unfolding start_at
returns-in_err-next c = search laws

pub returns : goal.returns
unfolding start_at
returns c = search laws
