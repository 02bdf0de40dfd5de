use Rattle.refusal.proofs.Laws.{handed_on}
use Rattle.string_ids.proofs.Laws.{looking as laws}
use Rattle.string_ids.proofs.look_up.Goals as goal

pub loop-k-init : goal.loop-k-init
loop-k-init c = search laws

pub returns-in_err-start : goal.returns-in_err-start
returns-in_err-start c = let e = c.in_err-start.ensures in handed_on _ _ c.from_residual.ensures (search laws)

pub returns-then-not-rises : goal.returns-then-not-rises
returns-then-not-rises c = let e = c.in_ok-start.ensures in search laws

pub loop-k-preserved : goal.loop-k-preserved
loop-k-preserved c = let e = c.in_ok-start.ensures in search laws

pub returns : goal.returns
returns c = search laws
