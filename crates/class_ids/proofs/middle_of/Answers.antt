use Rattle.class_ids.proofs.Laws.{own_laws as laws}
use Rattle.class_ids.specs.Classes.{middle_of}
use Rattle.class_ids.proofs.middle_of.Goals as goal

pub returns : goal.returns
unfolding middle_of
returns c = search laws

pub returns-then-not-is_allowed_or_absent : goal.returns-then-not-is_allowed_or_absent
unfolding middle_of
returns-then-not-is_allowed_or_absent c = search laws

pub returns-then-not-is_index_or_none : goal.returns-then-not-is_index_or_none
unfolding middle_of
returns-then-not-is_index_or_none c = search laws
