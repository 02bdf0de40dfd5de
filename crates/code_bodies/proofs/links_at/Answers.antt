use Rattle.refusal.proofs.Laws.{handed_on}
use Rattle.code_bodies.proofs.Laws.{link_laws as laws}
use Rattle.code_bodies.proofs.links_at.Goals as goal

pub tries-init : goal.tries-init
tries-init c = search laws

pub loop-number-init : goal.loop-number-init
loop-number-init c = search laws

pub returns-in_err-brief : goal.returns-in_err-brief
returns-in_err-brief c = let e = c.in_err-brief.ensures in handed_on _ _ c.from_residual.ensures (search laws)

pub tries-preserved : goal.tries-preserved
tries-preserved c = let e = c.in_ok-brief.ensures in search laws

pub loop-number-preserved : goal.loop-number-preserved
loop-number-preserved c = let e = c.in_ok-brief.ensures in search laws

pub returns-in-tries : goal.returns-in-tries
returns-in-tries c = search laws

pub returns : goal.returns
returns c = search laws
