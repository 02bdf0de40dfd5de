use lib.Dec.{lit≤}
use mir.Syntax.{w32}
use Rattle.decoded_value.specs.Shown.{is, integer}
use Rattle.decoded_value.proofs.Signs.{narrow_fits, narrow_is}
use Rattle.std.proofs.Common.{ap, ℤ}
use Rattle.decoded_value.proofs.int_of.Goals as goal

pub overflow_cast-result : goal.overflow_cast-result
overflow_cast-result c = narrow_fits c.requires (lit≤ tt) w32 (lit≤ tt) c.extend.ensures

pub returns : goal.returns
returns c = ap (λ (z : ℤ). is 0x04 (integer z)) (narrow_is c.requires (lit≤ tt) w32 (lit≤ tt) c.extend.ensures)
