use Rattle.encoded_value.proofs.Leaves.{bytes_laws as laws}
use Rattle.encoded_value.proofs.bytes_past.Goals as goal

pub returns-then-has_room : goal.returns-then-has_room
returns-then-has_room c = search laws

pub returns : goal.returns
returns c = search laws
