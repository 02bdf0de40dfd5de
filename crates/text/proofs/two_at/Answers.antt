use Rattle.text.proofs.Laws.{form_laws as laws}
use Rattle.text.specs.Text.{two_at}
use Rattle.text.proofs.two_at.Goals as goal

pub returns-then-s-p-lt2 : goal.returns-then-s-p-lt2
unfolding two_at
returns-then-s-p-lt2 c = search laws

pub returns-then-b-ne2 : goal.returns-then-b-ne2
unfolding two_at
returns-then-b-ne2 c = search laws

pub returns-then-unit-ge128 : goal.returns-then-unit-ge128
unfolding two_at
returns-then-unit-ge128 c = search laws

pub returns-then-unit-eq0 : goal.returns-then-unit-eq0
unfolding two_at
returns-then-unit-eq0 c = search laws

pub returns : goal.returns
unfolding two_at
returns c = search laws
