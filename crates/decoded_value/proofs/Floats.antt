-- The float of a pattern, for every pattern: laws over the format.
-- Assumes nothing.
use Prim.Native.Nat.{ℕ, ◌%◌, ◌/◌}
use mathlib.Core.Path.{◌≡◌}
use mathlib.Core.Bool.{Bool, true, false, not, ◌&&◌}
use lib.Dec.{T, eqb}
use lib.Ieee.{Format, binary32, binary64, top, hid, ones, of_bits, of_fields, nan_bits, div}
use borrow.Author.Tests.{eq-eqb, ne_eqb}

-- 0 / 0 is the value of every NaN's pattern
pub nan_of : (f : Format) (b : ℕ) → b % top f / hid f ≡ ones f → (b % hid f ≡ 0 → ⊥) → div f (of_bits f 0) (of_bits f 0) ≡ of_bits f b
unfolding of_bits of_fields div
nan_of binary32 b e h = simp (e, ne_eqb _ _ h)
nan_of binary64 b e h = simp (e, ne_eqb _ _ h)

and_false : (a : Bool) → T (not (a && false))
and_false true = tt
and_false false = tt

-- a pattern of no NaN, by its exponent or by its digits
pub number_exponent : (f : Format) (b : ℕ) → (b % top f / hid f ≡ ones f → ⊥) → T (not (nan_bits f b))
unfolding nan_bits
number_exponent f b h = simp (ne_eqb _ _ h) tt

pub number_digits : (f : Format) (b : ℕ) → b % hid f ≡ 0 → T (not (nan_bits f b))
unfolding nan_bits
number_digits f b h = simp (eq-eqb _ _ h) (and_false (eqb (b % top f / hid f) (ones f)))
