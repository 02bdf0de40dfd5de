use Rattle.report.proofs.Laws.{report_laws as laws}
use Rattle.report.specs.Lines.{refused_lines}
use Rattle.report.proofs.refused_into.Goals as goal

pub returns-clause-answer : goal.returns-clause-answer
unfolding refused_lines
returns-clause-answer c = search laws

pub returns-clause-wrote : goal.returns-clause-wrote
unfolding refused_lines
returns-clause-wrote c = search laws
