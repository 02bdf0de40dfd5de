use Rattle.class_data.proofs.Laws.{part_laws as laws}
use Rattle.class_data.specs.Data.{kept_two}
use Rattle.class_data.proofs.two_at.Goals as goal

pub returns-in_err-first : goal.returns-in_err-first
unfolding kept_two
returns-in_err-first c = search laws depth 7

pub returns-in_err-second : goal.returns-in_err-second
unfolding kept_two
returns-in_err-second c = search laws depth 7

pub returns : goal.returns
unfolding kept_two
returns c = search laws depth 7
