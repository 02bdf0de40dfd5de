use Rattle.type_list.proofs.Laws.{going as laws}
use Rattle.type_list.proofs.entry_number.Goals as goal

pub returns-then-s-j : goal.returns-then-s-j
returns-then-s-j c = search laws
