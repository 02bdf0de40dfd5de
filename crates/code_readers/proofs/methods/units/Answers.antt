use Rattle.code_readers.proofs.Laws.{laws}
use Rattle.code_readers.specs.Code.{method_units, units_content, units_in}
use Rattle.code_readers.proofs.methods.units.Goals as goal

pub returns-in_err-spot-clause-answer : goal.returns-in_err-spot-clause-answer
unfolding method_units
returns-in_err-spot-clause-answer c = search laws

pub returns-in_err-spot-clause-content : goal.returns-in_err-spot-clause-content
unfolding units_content units_in
returns-in_err-spot-clause-content c = search laws

pub returns-in_default-clause-answer : goal.returns-in_default-clause-answer
unfolding method_units
returns-in_default-clause-answer c = search laws

pub returns-in_default-clause-content : goal.returns-in_default-clause-content
unfolding units_content units_in
returns-in_default-clause-content c = search laws

pub returns-clause-answer : goal.returns-clause-answer
unfolding method_units
returns-clause-answer c = search laws

pub returns-clause-content : goal.returns-clause-content
unfolding units_content units_in
returns-clause-content c = search laws
