use Rattle.leb128.proofs.Laws.{sleb_laws as laws}
use Rattle.std.proofs.Common.{rules}
use Rattle.leb128.proofs.sleb.Goals as goal

pub returns-then-only-lt64 : goal.returns-then-only-lt64
returns-then-only-lt64 c = search laws depth 9

pub returns-then-only-lt128 : goal.returns-then-only-lt128
returns-then-only-lt128 c = search laws depth 9

pub returns-in_err-value : goal.returns-in_err-value
returns-in_err-value c = search laws depth 9

pub overflow_mul-value : goal.overflow_mul-value
overflow_mul-value c = search laws depth 9

pub returns-then-value-lt2147483648 : goal.returns-then-value-lt2147483648
returns-then-value-lt2147483648 c = search laws depth 9

pub returns-then-value-scale : goal.returns-then-value-scale
returns-then-value-scale c = search laws depth 9

pub overflow_sub-below : goal.overflow_sub-below
overflow_sub-below c = search laws depth 9

pub overflow_sub-low-then-below-le2147483648 : goal.overflow_sub-low-then-below-le2147483648
overflow_sub-low-then-below-le2147483648 c = search laws depth 9

pub returns-then-below-le2147483648 : goal.returns-then-below-le2147483648
returns-then-below-le2147483648 c = search laws depth 9

pub returns : goal.returns
returns c = search laws depth 9
