use Rattle.value_heads.proofs.Laws.{number_laws as laws}
use Rattle.value_heads.proofs.number_at.Goals as goal

pub joined-requires : goal.joined-requires
joined-requires c = search laws

pub returns-then-has_room : goal.returns-then-has_room
returns-then-has_room c = search laws

pub returns : goal.returns
returns c = search laws
