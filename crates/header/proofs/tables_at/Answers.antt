use Rattle.header.proofs.Laws.{own_laws as laws}
use Rattle.header.specs.Header.{tables_at}
use Rattle.header.proofs.tables_at.Goals as goal

pub returns-in_err-t : goal.returns-in_err-t
unfolding tables_at
returns-in_err-t c = search laws depth 7

pub returns-in_err-u : goal.returns-in_err-u
unfolding tables_at
returns-in_err-u c = search laws depth 7

pub returns : goal.returns
unfolding tables_at
returns c = search laws depth 7
