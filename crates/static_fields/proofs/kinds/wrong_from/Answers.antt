use Rattle.static_fields.proofs.KindLaws.{seeking as laws}
use Rattle.refusal.proofs.Laws.{handed_on}
use Rattle.static_fields.proofs.kinds.wrong_from.Goals as goal

pub loop-k-init : goal.loop-k-init
loop-k-init c = search laws

pub returns-in_err-member : goal.returns-in_err-member
returns-in_err-member c = let e = c.in_err-member.ensures in handed_on _ _ c.from_residual.ensures (search laws)

pub returns-in_err-fits : goal.returns-in_err-fits
returns-in_err-fits c =
    let e = c.in_ok-member.ensures in
    let g = c.in_err-fits.ensures in
    handed_on _ _ c.from_residual-in_err-fits.ensures (search laws)

pub returns-then-not-fits : goal.returns-then-not-fits
returns-then-not-fits c = search (laws, c.in_ok-member.ensures, c.in_ok-fits.ensures)

pub loop-k-preserved : goal.loop-k-preserved
loop-k-preserved c = search (laws, c.in_ok-member.ensures, c.in_ok-fits.ensures)

pub returns : goal.returns
returns c = search laws
