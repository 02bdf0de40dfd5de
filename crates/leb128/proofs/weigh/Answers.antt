use Rattle.leb128.proofs.Laws.{weighing_laws as laws}
use Rattle.leb128.proofs.weigh.Goals as goal

pub loop-k-init : goal.loop-k-init
loop-k-init c = search laws

pub returns-then-s-p : goal.returns-then-s-p
returns-then-s-p c = search laws

pub overflow_mul-result : goal.overflow_mul-result
overflow_mul-result c = search laws

pub overflow_add-result : goal.overflow_add-result
overflow_add-result c = search laws

pub overflow_mul-result-then-b-lt128 : goal.overflow_mul-result-then-b-lt128
overflow_mul-result-then-b-lt128 c = search laws

pub returns-then-b-lt128 : goal.returns-then-b-lt128
returns-then-b-lt128 c = search laws

pub overflow_mul-value : goal.overflow_mul-value
overflow_mul-value c = search laws

pub overflow_add-value : goal.overflow_add-value
overflow_add-value c = search laws

pub overflow_mul-scale : goal.overflow_mul-scale
overflow_mul-scale c = search laws

pub loop-k-preserved : goal.loop-k-preserved
loop-k-preserved c = search laws

pub returns : goal.returns
returns c = search laws
