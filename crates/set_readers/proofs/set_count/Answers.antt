use Rattle.set_readers.proofs.Laws.{framed as laws}
use Rattle.set_readers.specs.Sets.{set_count}
use Rattle.set_readers.proofs.set_count.Goals as goal

pub returns-then-at-gt0 : goal.returns-then-at-gt0
unfolding set_count
returns-then-at-gt0 c = search laws

pub returns : goal.returns
unfolding set_count
returns c = search laws
