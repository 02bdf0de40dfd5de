use Rattle.header.proofs.Laws.{own_laws as laws}
use Rattle.header.specs.Header.{sectioned_at}
use Rattle.header.proofs.sectioned.Goals as goal

pub returns-in_err-d : goal.returns-in_err-d
unfolding sectioned_at
returns-in_err-d c = search laws

pub returns : goal.returns
unfolding sectioned_at
returns c = search laws
