use Rattle.code_units.proofs.Laws.{into_laws as laws}
use Rattle.code_units.proofs.units_into.Goals as goal

pub returns-then-s-start-clause-answer : goal.returns-then-s-start-clause-answer
returns-then-s-start-clause-answer c = search laws

pub returns-then-s-start-clause-wrote : goal.returns-then-s-start-clause-wrote
returns-then-s-start-clause-wrote c = search laws

pub returns-then-s-start-2-clause-answer : goal.returns-then-s-start-2-clause-answer
returns-then-s-start-2-clause-answer c = search laws

pub returns-then-s-start-2-clause-wrote : goal.returns-then-s-start-2-clause-wrote
returns-then-s-start-2-clause-wrote c = search laws

pub returns-then-out-count-clause-answer : goal.returns-then-out-count-clause-answer
returns-then-out-count-clause-answer c = search laws

pub returns-then-out-count-clause-wrote : goal.returns-then-out-count-clause-wrote
returns-then-out-count-clause-wrote c = search laws

pub returns-clause-answer : goal.returns-clause-answer
returns-clause-answer c = search laws

pub returns-clause-wrote : goal.returns-clause-wrote
returns-clause-wrote c = search laws
