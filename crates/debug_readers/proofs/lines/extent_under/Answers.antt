use Rattle.debug_readers.proofs.Laws.{under_laws as laws}
use Rattle.debug_readers.specs.Debug.{extent_under}
use Rattle.debug_readers.proofs.lines.extent_under.Goals as goal

pub returns-in_err-outline : goal.returns-in_err-outline
unfolding extent_under
returns-in_err-outline c = search laws

pub returns : goal.returns
unfolding extent_under
returns c = search laws
