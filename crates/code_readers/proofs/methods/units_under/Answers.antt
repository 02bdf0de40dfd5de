use Rattle.code_readers.proofs.Laws.{whole_laws as laws}
use Rattle.code_readers.proofs.methods.units_under.Goals as goal

pub returns-in_err-o-clause-answer : goal.returns-in_err-o-clause-answer
returns-in_err-o-clause-answer c = search laws

pub returns-in_err-o-clause-content : goal.returns-in_err-o-clause-content
returns-in_err-o-clause-content c = search laws

pub returns-clause-answer : goal.returns-clause-answer
returns-clause-answer c = search laws

pub returns-clause-content : goal.returns-clause-content
returns-clause-content c = let e = c.in_ok-o.ensures in search laws
