use Rattle.text.proofs.Laws.{form_laws as laws}
use Rattle.text.specs.Text.{wide_at}
use Rattle.text.proofs.wide_at.Goals as goal

pub returns-then-s-p-eq6 : goal.returns-then-s-p-eq6
unfolding wide_at
returns-then-s-p-eq6 c = search laws

pub returns-then-s-p-eq14 : goal.returns-then-s-p-eq14
unfolding wide_at
returns-then-s-p-eq14 c = search laws

pub returns : goal.returns
unfolding wide_at
returns c = search laws
