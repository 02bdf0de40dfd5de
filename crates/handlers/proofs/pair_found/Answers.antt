use Rattle.handlers.proofs.Laws.{part_laws as laws}
use Rattle.handlers.specs.Handlers.{pair_at}
use Rattle.handlers.proofs.pair_found.Goals as goal

pub returns-in_err-kind : goal.returns-in_err-kind
unfolding pair_at
returns-in_err-kind c = search laws depth 8

pub returns-in_err-address : goal.returns-in_err-address
unfolding pair_at
returns-in_err-address c = search laws depth 8

pub returns-then-kind-j : goal.returns-then-kind-j
unfolding pair_at
returns-then-kind-j c = search laws depth 8

pub returns : goal.returns
unfolding pair_at
returns c = search laws depth 8
