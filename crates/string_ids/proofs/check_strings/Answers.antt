use Rattle.refusal.proofs.Laws.{handed_on}
use Rattle.string_ids.proofs.Laws.{checking as laws}
use Rattle.string_ids.proofs.check_strings.Goals as goal

pub loop-n-init : goal.loop-n-init
loop-n-init c = search laws

pub returns-in_err-start : goal.returns-in_err-start
returns-in_err-start c = let e = c.in_err-start.ensures in handed_on _ _ c.from_residual.ensures (search laws)

pub returns-then-not-rises : goal.returns-then-not-rises
returns-then-not-rises c = let e = c.in_ok-start.ensures in search laws

pub loop-n-preserved : goal.loop-n-preserved
loop-n-preserved c = let e = c.in_ok-start.ensures in search laws

pub returns : goal.returns
returns c = search laws
