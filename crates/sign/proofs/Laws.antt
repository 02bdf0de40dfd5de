-- The library's size of a signed number, as the machine holds it, is the magnitude. Assumes nothing.
use mathlib.Core.Path.{◌≡◌, refl, ap, ◌∙◌}
use native.Mathlib.Numerals.{add-one}
use Prim.Native.Nat.{ℕ}
use lib.IntN.{ℤ, pos, negsuc, nat_abs}
use mir.Syntax.{Width}
use mir.Val.{SFits, to_z, of_z}
use mir.ValLaws.{to_z-of_z}
use Rattle.sign.specs.Magnitude.{magnitude}

magnitude_is : (z : ℤ) → nat_abs z ≡ magnitude z
unfolding magnitude
magnitude_is (pos n) = refl
magnitude_is (negsuc n) = rw add-one refl

pub held : (w : Width) (z : ℤ) {n : ℕ} → SFits w z → n ≡ nat_abs (to_z w (of_z w z)) → n ≡ magnitude z
held w z f e = e ∙ ap nat_abs (to_z-of_z w z f) ∙ magnitude_is z
