use Rattle.refusal.proofs.Laws.{handed_on}
use Rattle.debug_info.proofs.Laws.{found_laws as laws}
use Rattle.debug_info.proofs.name_found.Goals as goal

pub returns-in_err-n : goal.returns-in_err-n
returns-in_err-n c = let e = c.in_err-n.ensures in handed_on _ _ c.from_residual.ensures (search laws)

pub returns-then-n-le0 : goal.returns-then-n-le0
returns-then-n-le0 c = let e = c.in_ok-n.ensures in search laws

pub returns-then-n-strings : goal.returns-then-n-strings
returns-then-n-strings c = let e = c.in_ok-n.ensures in search laws

pub returns : goal.returns
returns c = let e = c.in_ok-n.ensures in search laws
