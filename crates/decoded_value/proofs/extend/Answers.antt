use lib.IntN.{negsuc}
use mathlib.Core.Path.{◌∙◌, ap}
use native.Mathlib.Omega.{arith}
use Rattle.decoded_value.proofs.Signs.{extend_low, extend_high, half_known}
use Rattle.decoded_value.proofs.extend.Goals as goal

pub returns-then-x-half : goal.returns-then-x-half
returns-then-x-half c = extend_low c.requires c.plus.ensures (omega (arith, half_known c.requires))

pub returns : goal.returns
returns c = extend_high c.requires (c.minus.ensures ∙ ap negsuc (omega (arith, half_known c.requires))) (omega (arith, half_known c.requires))
