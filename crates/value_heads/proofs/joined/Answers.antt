use Rattle.value_heads.proofs.Numbers.{joining_laws as laws}
use Rattle.value_heads.proofs.joined.Goals as goal

pub loop-i-init : goal.loop-i-init
loop-i-init c = search laws

pub overflow_mul-sum : goal.overflow_mul-sum
overflow_mul-sum c = search laws

pub overflow_add-sum : goal.overflow_add-sum
overflow_add-sum c = search laws

pub bounds-s-at : goal.bounds-s-at
bounds-s-at c = search laws

pub overflow_add-sum-in-loop-i : goal.overflow_add-sum-in-loop-i
overflow_add-sum-in-loop-i c = search laws

pub loop-i-preserved : goal.loop-i-preserved
loop-i-preserved c = search laws

pub returns : goal.returns
returns c = search laws
