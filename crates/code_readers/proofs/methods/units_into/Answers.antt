use Rattle.code_readers.proofs.Laws.{unit_laws as laws}
use Rattle.code_readers.specs.Code.{units_into, units_written}
use Rattle.code_readers.proofs.methods.units_into.Goals as goal

pub returns-in_err-n-clause-answer : goal.returns-in_err-n-clause-answer
unfolding units_into units_written
returns-in_err-n-clause-answer c = search laws

pub returns-in_err-n-clause-content : goal.returns-in_err-n-clause-content
unfolding units_into units_written
returns-in_err-n-clause-content c = search laws

pub returns-clause-answer : goal.returns-clause-answer
unfolding units_into units_written
returns-clause-answer c = search laws

pub returns-clause-content : goal.returns-clause-content
unfolding units_into units_written
returns-clause-content c = search laws
