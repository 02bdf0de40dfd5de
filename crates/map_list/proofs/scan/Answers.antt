use Rattle.map_list.proofs.Laws.{scan_laws as laws}
use Rattle.map_list.proofs.scan.Goals as goal

pub returns-then-number-ge21 : goal.returns-then-number-ge21
returns-then-number-ge21 c = search laws

pub returns : goal.returns
returns c = search laws

pub loop-init : goal.loop-init
loop-init c = search laws

pub loop-preserved : goal.loop-preserved
loop-preserved c = search laws

pub returns-then-not-is_next_allowed : goal.returns-then-not-is_next_allowed
returns-then-not-is_next_allowed c = search laws
