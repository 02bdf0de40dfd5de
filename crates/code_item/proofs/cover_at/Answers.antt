use Rattle.code_item.proofs.Covering.{cover_laws as laws}
use Rattle.code_item.proofs.cover_at.Goals as goal

pub returns-then-is_covering : goal.returns-then-is_covering
returns-then-is_covering c = search laws

pub returns : goal.returns
returns c = search laws

pub loop-i-init : goal.loop-i-init
loop-i-init c = search laws

pub loop-i-preserved : goal.loop-i-preserved
loop-i-preserved c = search laws
