use lib.Ieee.{binary32}
use Rattle.decoded_value.proofs.Floats.{nan_of, number_exponent, number_digits}
use Rattle.decoded_value.proofs.f32_of.Goals as goal
use Rattle.decoded_value.proofs.f32_of.Goals.{then-bits-eq255+else-bits-ne0, else-bits-eq255}

pub returns-then-bits-ne0 : goal.returns-then-bits-ne0
returns-then-bits-ne0 c = nan_of binary32 c.args.bits c.if-bits-eq255.true c.if-bits-ne0.true

-- the pattern is of no NaN, by its digits or by its exponent
pub float_from_bits-result : goal.float_from_bits-result
float_from_bits-result c =
    elim c.if-bits-eq255.branch [
      | then-bits-eq255+else-bits-ne0 w ↦ number_digits binary32 c.args.bits w.if-bits-ne0.false
      | else-bits-eq255 w ↦ number_exponent binary32 c.args.bits w.if-bits-eq255.false
    ]
