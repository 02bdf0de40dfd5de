use Rattle.code_readers.proofs.Laws.{under_laws as laws}
use Rattle.code_readers.specs.Code.{cover_under}
use Rattle.code_readers.proofs.methods.cover_under.Goals as goal

pub returns : goal.returns
unfolding cover_under
returns c = search laws
