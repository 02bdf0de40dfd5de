use Rattle.refusal.proofs.Laws.{handed_on}
use Rattle.text.proofs.Laws.{count_laws as laws}
use Rattle.text.proofs.count_at.Goals as goal

pub loop-p-init : goal.loop-p-init
loop-p-init c = search laws

pub loop-p-preserved-then-n-ge8 : goal.loop-p-preserved-then-n-ge8
loop-p-preserved-then-n-ge8 c = search laws

pub loop-p-preserved-then-s-p-gt0 : goal.loop-p-preserved-then-s-p-gt0
loop-p-preserved-then-s-p-gt0 c = search laws

pub returns-then-s-p-lt128 : goal.returns-then-s-p-lt128
returns-then-s-p-lt128 c = search laws

pub loop-p-smaller : goal.loop-p-smaller
loop-p-smaller c = let e = c.in_ok-next.ensures in search laws

pub loop-p-preserved : goal.loop-p-preserved
loop-p-preserved c = let e = c.in_ok-next.ensures in search laws

pub returns : goal.returns
returns c = search laws

pub returns-in_err-next : goal.returns-in_err-next
returns-in_err-next c = let e = c.in_err-next.ensures in handed_on _ _ c.from_residual.ensures (search laws)
