use Rattle.static_fields.proofs.PairLaws.{pair_laws as laws}
use Rattle.static_fields.specs.Stages.{pair_of}
use Rattle.static_fields.proofs.pairs.pair_of.Goals as goal

pub returns-in_err-m : goal.returns-in_err-m
unfolding pair_of
returns-in_err-m c = search laws

pub returns-in_err-value : goal.returns-in_err-value
unfolding pair_of
returns-in_err-value c = search laws depth 7

pub returns-in_err-value-2 : goal.returns-in_err-value-2
unfolding pair_of
returns-in_err-value-2 c = search laws depth 7

pub returns-in_ok-value : goal.returns-in_ok-value
unfolding pair_of
returns-in_ok-value c = search laws depth 7

pub returns-in_ok-value-2 : goal.returns-in_ok-value-2
unfolding pair_of
returns-in_ok-value-2 c = search laws depth 7
