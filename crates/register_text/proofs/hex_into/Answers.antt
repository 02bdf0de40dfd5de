use Rattle.register_text.proofs.NumberLaws.{hex_laws as laws}
use Rattle.register_text.proofs.hex_into.Goals as goal

pub returns-then-out-digits-clause-answer : goal.returns-then-out-digits-clause-answer
returns-then-out-digits-clause-answer c = search laws

pub returns-then-out-digits-clause-wrote : goal.returns-then-out-digits-clause-wrote
returns-then-out-digits-clause-wrote c = search laws

pub loop-i-init : goal.loop-i-init
loop-i-init c = search laws

pub loop-i-preserved : goal.loop-i-preserved
loop-i-preserved c = search laws

pub returns-clause-answer : goal.returns-clause-answer
returns-clause-answer c = search laws

pub returns-clause-wrote : goal.returns-clause-wrote
returns-clause-wrote c = search laws
