use Rattle.header.proofs.Laws.{own_laws as laws}
use Rattle.header.specs.Header.{body_of}
use Rattle.header.proofs.body_at.Goals as goal

pub returns-then-size-ne112 : goal.returns-then-size-ne112
unfolding body_of
returns-then-size-ne112 c = search laws

pub returns-then-file-f : goal.returns-then-file-f
unfolding body_of
returns-then-file-f c = search laws

pub returns : goal.returns
unfolding body_of
returns c = search laws
