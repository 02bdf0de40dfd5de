use Rattle.register_text.proofs.WholeLaws.{double_laws as laws}
use Rattle.register_text.proofs.whole_of_double.Goals as goal

pub returns-then-bits-eq0 : goal.returns-then-bits-eq0
returns-then-bits-eq0 c = search laws depth 7

pub returns-then-exponent-lt1023 : goal.returns-then-exponent-lt1023
returns-then-exponent-lt1023 c = search laws depth 7

pub returns-then-exponent-le1075 : goal.returns-then-exponent-le1075
returns-then-exponent-le1075 c = search laws depth 7

pub returns-then-bits-eq4845873199050653696 : goal.returns-then-bits-eq4845873199050653696
returns-then-bits-eq4845873199050653696 c = search laws depth 7

pub returns : goal.returns
returns c = search laws depth 7
