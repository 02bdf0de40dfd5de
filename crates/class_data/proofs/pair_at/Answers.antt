use Rattle.class_data.proofs.Laws.{part_laws as laws}
use Rattle.class_data.specs.Data.{two_numbers_at}
use Rattle.class_data.proofs.pair_at.Goals as goal

pub returns-in_err-first : goal.returns-in_err-first
unfolding two_numbers_at
returns-in_err-first c = search laws depth 7

pub returns-in_err-second : goal.returns-in_err-second
unfolding two_numbers_at
returns-in_err-second c = search laws depth 7

pub returns : goal.returns
unfolding two_numbers_at
returns c = search laws depth 7
