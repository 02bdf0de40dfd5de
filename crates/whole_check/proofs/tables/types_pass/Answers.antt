use Rattle.refusal.proofs.Laws.{handed_on}
use Rattle.whole_check.proofs.TableLaws.{typing as laws}
use Rattle.whole_check.proofs.tables.types_pass.Goals as goal

pub loop-k-init : goal.loop-k-init
loop-k-init c = search laws

pub returns-in_err-string : goal.returns-in_err-string
returns-in_err-string c = let e = c.in_err-string.ensures in handed_on _ _ c.from_residual.ensures (search laws)

pub returns-then-not-rises : goal.returns-then-not-rises
returns-then-not-rises c = let e = c.in_ok-string.ensures in search laws

pub loop-k-preserved : goal.loop-k-preserved
loop-k-preserved c = let e = c.in_ok-string.ensures in search laws

pub returns : goal.returns
returns c = search laws
