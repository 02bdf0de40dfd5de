use Rattle.code_readers.proofs.Laws.{under_laws as laws}
use Rattle.code_readers.specs.Code.{try_under}
use Rattle.code_readers.proofs.methods.try_under.Goals as goal

pub returns-in_err-numbered : goal.returns-in_err-numbered
unfolding try_under
returns-in_err-numbered c = search laws

pub returns : goal.returns
unfolding try_under
returns c = search laws
