use Rattle.header.proofs.Laws.{own_laws as laws}
use Rattle.header.specs.Header.{three_at}
use Rattle.header.proofs.three_at.Goals as goal

pub returns-in_err-first : goal.returns-in_err-first
unfolding three_at
returns-in_err-first c = search laws depth 9

pub returns-in_err-second : goal.returns-in_err-second
unfolding three_at
returns-in_err-second c = search laws depth 9

pub returns-in_err-third : goal.returns-in_err-third
unfolding three_at
returns-in_err-third c = search laws depth 9

pub returns : goal.returns
unfolding three_at
returns c = search laws depth 9
