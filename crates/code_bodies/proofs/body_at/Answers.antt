use Rattle.code_bodies.proofs.Stages.{body_laws as laws}
use Rattle.code_bodies.proofs.body_at.Goals as goal

pub returns-then-s-item : goal.returns-then-s-item
returns-then-s-item c = search laws

pub returns-then-s-item-2 : goal.returns-then-s-item-2
returns-then-s-item-2 c = search laws

pub returns-then-s-item-3 : goal.returns-then-s-item-3
returns-then-s-item-3 c = search laws

pub returns : goal.returns
returns c = search laws
