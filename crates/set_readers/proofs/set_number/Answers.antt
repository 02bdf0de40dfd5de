use Rattle.set_readers.proofs.Laws.{framed as laws}
use Rattle.set_readers.specs.Sets.{set_number}
use Rattle.set_readers.proofs.set_number.Goals as goal

pub returns-then-at-gt0 : goal.returns-then-at-gt0
unfolding set_number
returns-then-at-gt0 c = search laws

pub returns : goal.returns
unfolding set_number
returns c = search laws
