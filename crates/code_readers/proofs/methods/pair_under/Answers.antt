use Rattle.code_readers.proofs.Laws.{under_laws as laws}
use Rattle.code_readers.specs.Code.{pair_under}
use Rattle.code_readers.proofs.methods.pair_under.Goals as goal

pub returns-in_err-pair : goal.returns-in_err-pair
unfolding pair_under
returns-in_err-pair c = search laws

pub returns : goal.returns
unfolding pair_under
returns c = search laws
