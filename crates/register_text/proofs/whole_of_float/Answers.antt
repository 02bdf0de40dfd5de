use Rattle.register_text.proofs.WholeLaws.{float_laws as laws}
use Rattle.register_text.proofs.whole_of_float.Goals as goal

pub returns-then-bits-eq0 : goal.returns-then-bits-eq0
returns-then-bits-eq0 c = search laws depth 7

pub returns-then-exponent-lt127 : goal.returns-then-exponent-lt127
returns-then-exponent-lt127 c = search laws depth 7

pub returns-then-exponent-le150 : goal.returns-then-exponent-le150
returns-then-exponent-le150 c = search laws depth 7

pub returns-then-bits-eq1266679808 : goal.returns-then-bits-eq1266679808
returns-then-bits-eq1266679808 c = search laws depth 7

pub returns : goal.returns
returns c = search laws depth 7
