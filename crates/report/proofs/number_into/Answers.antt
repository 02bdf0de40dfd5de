use Rattle.report.proofs.Laws.{number_laws as laws}
use Rattle.report.proofs.number_into.Goals as goal

pub put_digits-k-requires : goal.put_digits-k-requires
put_digits-k-requires c = search laws

pub returns-clause-answer : goal.returns-clause-answer
returns-clause-answer c = search laws

pub returns-clause-wrote : goal.returns-clause-wrote
returns-clause-wrote c = search laws
