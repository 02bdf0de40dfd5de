use Rattle.map_list.proofs.Codes.{searching as laws}
use Rattle.map_list.specs.Codes.{codes}
use Rattle.map_list.proofs.code_of.Goals as goal

pub loop-i-init : goal.loop-i-init
loop-i-init c = search laws

pub loop-i-preserved : goal.loop-i-preserved
unfolding codes
loop-i-preserved c = search laws

pub returns : goal.returns
unfolding codes
returns c = search laws

pub returns-then-code-kind : goal.returns-then-code-kind
unfolding codes
returns-then-code-kind c = search laws
