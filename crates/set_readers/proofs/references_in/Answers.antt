use Rattle.set_readers.proofs.Laws.{framed as laws}
use Rattle.set_readers.specs.Sets.{references_in}
use Rattle.set_readers.proofs.references_in.Goals as goal

pub returns : goal.returns
unfolding references_in
returns c = search laws
