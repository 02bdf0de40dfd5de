use Rattle.ids.proofs.Laws.{own_laws as laws}
use Rattle.ids.specs.Records.{proto_of}
use Rattle.ids.proofs.proto_at.Goals as goal

pub returns-then-frame-shorty : goal.returns-then-frame-shorty
unfolding proto_of
returns-then-frame-shorty c = search laws depth 7

pub returns-then-frame-return_type : goal.returns-then-frame-return_type
unfolding proto_of
returns-then-frame-return_type c = search laws depth 7

pub returns-then-is_allowed_or_absent : goal.returns-then-is_allowed_or_absent
unfolding proto_of
returns-then-is_allowed_or_absent c = search laws depth 7

pub returns : goal.returns
unfolding proto_of
returns c = search laws depth 7
