use Rattle.class_ids.proofs.Laws.{own_laws as laws}
use Rattle.class_ids.specs.Classes.{first_of}
use Rattle.class_ids.proofs.first_of.Goals as goal

pub returns-then-frame-w : goal.returns-then-frame-w
unfolding first_of
returns-then-frame-w c = search laws

pub returns : goal.returns
unfolding first_of
returns c = search laws

pub returns-then-not-is_index_or_none : goal.returns-then-not-is_index_or_none
unfolding first_of
returns-then-not-is_index_or_none c = search laws
