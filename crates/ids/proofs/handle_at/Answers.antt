use Rattle.ids.proofs.Laws.{own_laws as laws}
use Rattle.ids.specs.Records.{handle_of}
use Rattle.ids.proofs.handle_at.Goals as goal

pub returns-then-kind-gt8 : goal.returns-then-kind-gt8
unfolding handle_of
returns-then-kind-gt8 c = search laws depth 7

pub returns-then-number-frame : goal.returns-then-number-frame
unfolding handle_of
returns-then-number-frame c = search laws depth 7

pub returns-then-kind-le3 : goal.returns-then-kind-le3
unfolding handle_of
returns-then-kind-le3 c = search laws depth 7

pub returns-then-number-frame-2 : goal.returns-then-number-frame-2
unfolding handle_of
returns-then-number-frame-2 c = search laws depth 7

pub returns : goal.returns
unfolding handle_of
returns c = search laws depth 7
