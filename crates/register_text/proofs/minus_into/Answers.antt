use Rattle.register_text.proofs.NumberLaws.{minus_laws as laws}
use Rattle.register_text.proofs.minus_into.Goals as goal

pub returns-then-out-lt1-clause-answer : goal.returns-then-out-lt1-clause-answer
returns-then-out-lt1-clause-answer c = search laws

pub returns-then-out-lt1-clause-wrote : goal.returns-then-out-lt1-clause-wrote
returns-then-out-lt1-clause-wrote c = search laws

pub overflow_add-end : goal.overflow_add-end
overflow_add-end c = search laws

pub returns-in_err-k-clause-answer : goal.returns-in_err-k-clause-answer
returns-in_err-k-clause-answer c = search laws

pub returns-in_err-k-clause-wrote : goal.returns-in_err-k-clause-wrote
returns-in_err-k-clause-wrote c = search laws

pub returns-clause-answer : goal.returns-clause-answer
returns-clause-answer c = search laws

pub returns-clause-wrote : goal.returns-clause-wrote
returns-clause-wrote c = search laws
