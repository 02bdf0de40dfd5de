use Rattle.code_bodies.proofs.Laws.{try_laws as laws}
use Rattle.code_bodies.proofs.tries_found.Goals as goal

pub returns-else-is_try_allowed : goal.returns-else-is_try_allowed
returns-else-is_try_allowed c = search laws

pub returns : goal.returns
returns c = search laws

pub loop-i-init : goal.loop-i-init
loop-i-init c = search laws

pub loop-i-preserved : goal.loop-i-preserved
loop-i-preserved c = search laws
