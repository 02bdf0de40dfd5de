use lib.Ieee.{binary64}
use Rattle.decoded_value.proofs.Floats.{nan_of, number_exponent, number_digits}
use Rattle.decoded_value.proofs.f64_of.Goals as goal
use Rattle.decoded_value.proofs.f64_of.Goals.{then-bits-eq2047+else-bits-ne0, else-bits-eq2047}

pub returns-then-bits-ne0 : goal.returns-then-bits-ne0
returns-then-bits-ne0 c = nan_of binary64 c.args.bits c.if-bits-eq2047.true c.if-bits-ne0.true

-- the pattern is of no NaN, by its digits or by its exponent
pub float_from_bits-result : goal.float_from_bits-result
float_from_bits-result c =
    elim c.if-bits-eq2047.branch [
      | then-bits-eq2047+else-bits-ne0 w ↦ number_digits binary64 c.args.bits w.if-bits-ne0.false
      | else-bits-eq2047 w ↦ number_exponent binary64 c.args.bits w.if-bits-eq2047.false
    ]
