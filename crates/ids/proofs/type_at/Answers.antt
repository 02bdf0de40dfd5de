use Rattle.ids.proofs.Laws.{own_laws as laws}
use Rattle.ids.specs.Records.{type_of}
use Rattle.ids.proofs.type_at.Goals as goal

pub returns-then-string-frame : goal.returns-then-string-frame
unfolding type_of
returns-then-string-frame c = search laws

pub returns : goal.returns
unfolding type_of
returns c = search laws
