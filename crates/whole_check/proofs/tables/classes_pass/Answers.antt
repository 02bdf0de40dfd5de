use Rattle.refusal.proofs.Laws.{handed_on}
use Rattle.whole_check.proofs.TableLaws.{counting as laws}
use Rattle.whole_check.proofs.tables.classes_pass.Goals as goal

pub loop-k-init : goal.loop-k-init
loop-k-init c = search laws

pub returns-in_err-check_class : goal.returns-in_err-check_class
returns-in_err-check_class c = let e = c.in_err-check_class.ensures in handed_on _ _ c.from_residual.ensures (search laws)

pub loop-k-preserved : goal.loop-k-preserved
loop-k-preserved c = let e = c.in_ok-check_class.ensures in search laws

pub returns : goal.returns
returns c = search laws
