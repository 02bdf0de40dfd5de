use Rattle.ids.proofs.Laws.{own_laws as laws}
use Rattle.ids.specs.Records.{member_id_of}
use Rattle.ids.proofs.member_at.Goals as goal

pub returns-then-frame-class : goal.returns-then-frame-class
unfolding member_id_of
returns-then-frame-class c = search laws depth 7

pub returns-then-kinds-kind : goal.returns-then-kinds-kind
unfolding member_id_of
returns-then-kinds-kind c = search laws depth 7

pub returns-then-frame-name : goal.returns-then-frame-name
unfolding member_id_of
returns-then-frame-name c = search laws depth 7

pub returns : goal.returns
unfolding member_id_of
returns c = search laws depth 7
