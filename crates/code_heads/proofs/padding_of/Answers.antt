use Rattle.code_heads.proofs.Laws.{pad_laws as laws}
use Rattle.code_heads.proofs.padding_of.Goals as goal

pub returns-then-units-eq1 : goal.returns-then-units-eq1
returns-then-units-eq1 c = search laws

pub returns-then-tries-gt0 : goal.returns-then-tries-gt0
returns-then-tries-gt0 c = search laws

pub returns : goal.returns
returns c = search laws
