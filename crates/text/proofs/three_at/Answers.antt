use Rattle.text.proofs.Laws.{form_laws as laws}
use Rattle.text.specs.Text.{three_at}
use Rattle.text.proofs.three_at.Goals as goal

pub returns-then-s-p-lt3 : goal.returns-then-s-p-lt3
unfolding three_at
returns-then-s-p-lt3 c = search laws

pub returns-then-b-ne2 : goal.returns-then-b-ne2
unfolding three_at
returns-then-b-ne2 c = search laws

pub returns-then-c-ne2 : goal.returns-then-c-ne2
unfolding three_at
returns-then-c-ne2 c = search laws

pub returns-then-unit-lt2048 : goal.returns-then-unit-lt2048
unfolding three_at
returns-then-unit-lt2048 c = search laws

pub returns : goal.returns
unfolding three_at
returns c = search laws
