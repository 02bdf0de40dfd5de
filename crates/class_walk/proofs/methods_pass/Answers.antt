use Rattle.refusal.proofs.Laws.{handed_on}
use Rattle.class_walk.proofs.Laws.{loop_laws as laws}
use Rattle.class_walk.proofs.methods_pass.Goals as goal

pub loop-init : goal.loop-init
loop-init c = search laws

pub returns-in_err-member : goal.returns-in_err-member
returns-in_err-member c = let e = c.in_err-member.ensures in handed_on _ _ c.from_residual.ensures (search laws)

pub returns-in_err-method_below : goal.returns-in_err-method_below
returns-in_err-method_below c = let e = c.in_ok-member.ensures in let g = c.in_err-method_below.ensures in handed_on _ _ c.from_residual-in_err-method_below.ensures (search laws)

pub loop-preserved : goal.loop-preserved
loop-preserved c = let e = c.in_ok-member.ensures in let g = c.in_ok-method_below.ensures in search laws

pub returns : goal.returns
returns c = search laws
