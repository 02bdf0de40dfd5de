use Rattle.refusal.proofs.Laws.{handed_on}
use Rattle.handlers.specs.Handlers.{kept_pairs}
use Rattle.handlers.proofs.Laws.{loop_laws as laws}
use Rattle.handlers.proofs.pairs_at.Goals as goal

pub returns : goal.returns
unfolding kept_pairs
returns c = search laws

pub loop-i-init : goal.loop-i-init
loop-i-init c = search laws

pub returns-in_err-pair : goal.returns-in_err-pair
unfolding kept_pairs
returns-in_err-pair c = let e = c.in_err-pair.ensures in handed_on _ _ c.from_residual.ensures (search laws)

pub loop-i-preserved : goal.loop-i-preserved
loop-i-preserved c = let e = c.in_ok-pair.ensures in search laws
