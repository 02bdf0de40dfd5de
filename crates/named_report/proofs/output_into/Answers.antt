use Rattle.named_report.proofs.Laws.{output_laws as laws, whole_output_content}
use Rattle.named_report.proofs.output_into.Goals as goal

pub returns-then-out-at-clause-answer : goal.returns-then-out-at-clause-answer
returns-then-out-at-clause-answer c = search laws

pub returns-then-out-at-clause-wrote : goal.returns-then-out-at-clause-wrote
returns-then-out-at-clause-wrote c = search laws

pub overflow_add-end : goal.overflow_add-end
overflow_add-end c = search laws

pub returns-clause-answer : goal.returns-clause-answer
returns-clause-answer c = search laws

pub returns-clause-wrote : goal.returns-clause-wrote
returns-clause-wrote c = whole_output_content c.args.name.now c.args.out.now _ _ c.heading_size-at.ensures c.if-out-at.false c.in_ok-k.ensures.answer _ c.verdict_into.ensures.wrote c.put_heading.ensures

pub returns-in_err-k-clause-answer : goal.returns-in_err-k-clause-answer
returns-in_err-k-clause-answer c = search laws

pub returns-in_err-k-clause-wrote : goal.returns-in_err-k-clause-wrote
returns-in_err-k-clause-wrote c = search laws
