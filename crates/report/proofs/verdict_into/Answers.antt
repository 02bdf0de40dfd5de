use borrow.Author.Rules.{rules}
use Rattle.report.specs.Lines.{report_of}
use Rattle.report.proofs.verdict_into.Goals as goal

pub returns-in-Ok-clause-answer : goal.returns-in-Ok-clause-answer
unfolding report_of
returns-in-Ok-clause-answer c = search rules

pub returns-in-Ok-clause-wrote : goal.returns-in-Ok-clause-wrote
unfolding report_of
returns-in-Ok-clause-wrote c = search rules

pub returns-in-Err-clause-answer : goal.returns-in-Err-clause-answer
unfolding report_of
returns-in-Err-clause-answer c = search rules

pub returns-in-Err-clause-wrote : goal.returns-in-Err-clause-wrote
unfolding report_of
returns-in-Err-clause-wrote c = search rules
