use Rattle.access_flags.proofs.Laws.{writer as laws}
use Rattle.access_flags.proofs.flags_into.Goals as goal

pub returns-then-out-n-clause-answer : goal.returns-then-out-n-clause-answer
returns-then-out-n-clause-answer c = search laws

pub returns-then-out-n-clause-content : goal.returns-then-out-n-clause-content
returns-then-out-n-clause-content c = search laws

pub returns-clause-answer : goal.returns-clause-answer
returns-clause-answer c = search laws

pub returns-clause-content : goal.returns-clause-content
returns-clause-content c = search laws
