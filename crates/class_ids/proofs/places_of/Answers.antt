use Rattle.class_ids.proofs.Laws.{own_laws as laws}
use Rattle.class_ids.specs.Classes.{places_of}
use Rattle.class_ids.proofs.places_of.Goals as goal

pub returns : goal.returns
unfolding places_of
returns c = search laws depth 7

pub returns-then-not-is_allowed_or_absent : goal.returns-then-not-is_allowed_or_absent
unfolding places_of
returns-then-not-is_allowed_or_absent c = search laws depth 7

pub returns-then-not-is_allowed_or_absent-2 : goal.returns-then-not-is_allowed_or_absent-2
unfolding places_of
returns-then-not-is_allowed_or_absent-2 c = search laws depth 7

pub returns-then-not-is_allowed_or_absent-3 : goal.returns-then-not-is_allowed_or_absent-3
unfolding places_of
returns-then-not-is_allowed_or_absent-3 c = search laws depth 7
