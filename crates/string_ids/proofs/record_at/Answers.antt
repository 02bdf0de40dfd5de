use Rattle.string_ids.proofs.Laws.{record_laws as laws}
use Rattle.string_ids.specs.Strings.{record_of}
use Rattle.string_ids.proofs.record_at.Goals as goal

pub returns-then-is_allowed : goal.returns-then-is_allowed
unfolding record_of
returns-then-is_allowed c = search laws

pub returns : goal.returns
unfolding record_of
returns c = search laws
