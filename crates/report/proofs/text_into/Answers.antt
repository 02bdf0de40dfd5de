use Rattle.report.proofs.Laws.{text_laws as laws}
use Rattle.report.proofs.text_into.Goals as goal

pub returns-then-out-text-clause-answer : goal.returns-then-out-text-clause-answer
returns-then-out-text-clause-answer c = search laws

pub returns-then-out-text-clause-wrote : goal.returns-then-out-text-clause-wrote
returns-then-out-text-clause-wrote c = search laws

pub returns-clause-answer : goal.returns-clause-answer
returns-clause-answer c = search laws

pub returns-clause-wrote : goal.returns-clause-wrote
returns-clause-wrote c = search laws
