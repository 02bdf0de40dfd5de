use Rattle.debug_readers.proofs.Laws.{under_laws as laws}
use Rattle.debug_readers.specs.Debug.{name_under}
use Rattle.debug_readers.proofs.lines.name_under.Goals as goal

pub returns-in_err-name : goal.returns-in_err-name
unfolding name_under
returns-in_err-name c = search laws

pub returns : goal.returns
unfolding name_under
returns c = search laws
