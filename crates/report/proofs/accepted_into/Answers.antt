use Rattle.report.proofs.Laws.{report_laws as laws}
use Rattle.report.proofs.accepted_into.Goals as goal

pub returns-clause-answer : goal.returns-clause-answer
returns-clause-answer c = search laws

pub returns-clause-wrote : goal.returns-clause-wrote
returns-clause-wrote c = search laws
