use Rattle.register_text.proofs.NumberLaws.{integer_laws as laws}
use Rattle.register_text.proofs.integer_into.Goals as goal

pub returns-then-number-lt0-clause-answer : goal.returns-then-number-lt0-clause-answer
returns-then-number-lt0-clause-answer c = search laws

pub returns-then-number-lt0-clause-wrote : goal.returns-then-number-lt0-clause-wrote
returns-then-number-lt0-clause-wrote c = search laws

pub returns-clause-answer : goal.returns-clause-answer
returns-clause-answer c = search laws

pub returns-clause-wrote : goal.returns-clause-wrote
returns-clause-wrote c = search laws
