-- Signed numbers out of unsigned ones, and numbers moved up: laws over the width.
-- Assumes nothing.
use Prim.Native.Nat.{ℕ, zero, suc, ◌+◌, ◌-◌, ◌*◌, ◌%◌, ◌^◌, ◌<◌, ◌≤◌}
use mathlib.Core.Path.{◌≡◌, refl, ap, sym, ◌∙◌}
use lib.IntN.{ℤ, pos, negsuc, ◌-ℤ◌}
use lib.Dec.{lit≤}
use lib.Pow.{pow_pos, pow_mono, pow-add}
use native.Mathlib.Decide.{dec_lt}
use native.Mathlib.Nat.{lt_of_lt_of_le, zero-add, two-pow-succ, mul-lt-mul_of_pos_right}
use native.Mathlib.Omega.{arith}
use borrow.Author.Rules.{rules}
use borrow.Author.Tests.{lt-ltb, le-ltb}
use mir.Syntax.{Width, w64}
use mir.Val.{hbits, SFits, to_z, of_z}
use mir.Facts.{to_z-of_z, to_z_pos}
use Rattle.value_heads.specs.Numbers.{signed, raised}
use Rattle.decoded_value.specs.Sizes.{Sized}

-- ---- -1 - k
minus_one : (k : ℕ) → negsuc 0 -ℤ pos k ≡ negsuc k
minus_one zero = refl
minus_one (suc k) = rw zero-add

module _ (k : ℕ) (h : k < 2 ^ 63) where
  minus_is : negsuc 0 -ℤ to_z w64 k ≡ negsuc k
  minus_is = rw (to_z_pos w64 h) (minus_one k)

  pub minus_fits : SFits w64 (negsuc 0 -ℤ to_z w64 k)
  minus_fits = rw minus_is (record { sfits = h })

  pub minus_back : to_z w64 (of_z w64 (negsuc 0 -ℤ to_z w64 k)) ≡ negsuc k
  minus_back = to_z-of_z minus_fits ∙ minus_is

  pub plus_is : to_z w64 k ≡ pos k
  plus_is = to_z_pos w64 h

-- ---- half of the range of n bytes
pub record Half (n : ℕ) : Type 0 where
  pub twice : 2 ^ (8 * n) ≡ 2 ^ (8 * n - 1) + 2 ^ (8 * n - 1)
  pub small : 2 ^ (8 * n - 1) ≤ 2 ^ 63
  pub some_half : 0 < 2 ^ (8 * n - 1)

module _ {most n x : ℕ} (z : Sized most n x) (m : most ≤ 8) where
  half_twice : 2 ^ (8 * n) ≡ 2 ^ (8 * n - 1) + 2 ^ (8 * n - 1)
  half_twice = let s = z.some_byte in let e : 8 * n ≡ suc (8 * n - 1) = omega arith in ap (λ (k : ℕ). 2 ^ k) e ∙ two-pow-succ (8 * n - 1)

  half_small : 2 ^ (8 * n - 1) ≤ 2 ^ 63
  half_small = let f = z.few in pow_mono {i = 8 * n - 1} {j = 63} (omega arith)

  signed_low : x < 2 ^ (8 * n - 1) → pos x ≡ signed n x
  unfolding signed
  signed_low h = simp (lt-ltb _ _ h)

  signed_high : 2 ^ (8 * n - 1) ≤ x → negsuc (2 ^ (8 * n) - 1 - x) ≡ signed n x
  unfolding signed
  signed_high h = simp (le-ltb _ _ h)

  -- the signed number of n bytes fits a width of as many bytes
  pub signed_fits : (w : Width) → 8 * most - 1 ≤ hbits w → SFits w (signed n x)
  signed_fits w l = go (dec_lt x (2 ^ (8 * n - 1)))
    where
      enough : 2 ^ (8 * n - 1) ≤ 2 ^ hbits w
      enough = let f = z.few in let s = z.some_byte in pow_mono {i = 8 * n - 1} {j = hbits w} (omega arith)

      go : Dec (x < 2 ^ (8 * n - 1)) → SFits w (signed n x)
      go (yes p) = rw (sym (signed_low p)) (record { sfits = lt_of_lt_of_le p enough })
      go (no p) =
          let q : 2 ^ (8 * n - 1) ≤ x = omega arith in
          let s = z.small in
          let t = half_twice in
          let r : 2 ^ (8 * n) - 1 - x < 2 ^ (8 * n - 1) = omega arith in
          rw (sym (signed_high q)) (record { sfits = lt_of_lt_of_le r enough })

  -- narrowed from 64 bits
  module _ (w : Width) (l : 8 * most - 1 ≤ hbits w) {r : ℤ} (e : r ≡ signed n x) where
    back : to_z w64 (of_z w64 r) ≡ signed n x
    back = rw e (to_z-of_z (signed_fits w64 (omega arith)))

    pub narrow_fits : SFits w (to_z w64 (of_z w64 r))
    narrow_fits = rw back (signed_fits w l)

    pub narrow_is : to_z w (of_z w (to_z w64 (of_z w64 r))) ≡ signed n x
    narrow_is = rw back (to_z-of_z (signed_fits w l))

  pub widen : Sized 8 n x
  widen = let f = z.few in record { some_byte = z.some_byte; few = omega arith; small = z.small }

module _ {n x : ℕ} (z : Sized 8 n x) where
  pub long_is : {r : ℤ} → r ≡ signed n x → to_z w64 (of_z w64 r) ≡ signed n x
  long_is e = rw e (to_z-of_z (signed_fits z (lit≤ tt) w64 (lit≤ tt)))

  -- what `extend` calls its two ways for
  pub extend_low : {r : ℤ} → r ≡ pos x → x < 2 ^ (8 * n - 1) → to_z w64 (of_z w64 r) ≡ signed n x
  extend_low e h = long_is (e ∙ signed_low z (lit≤ tt) h)

  pub extend_high : {r : ℤ} → r ≡ negsuc (2 ^ (8 * n) - 1 - x) → 2 ^ (8 * n - 1) ≤ x → to_z w64 (of_z w64 r) ≡ signed n x
  extend_high e h = long_is (e ∙ signed_high z (lit≤ tt) h)

  -- what is known of the half, for sums
  pub half_known : Half n
  half_known = record { twice = half_twice z (lit≤ tt); small = half_small z (lit≤ tt); some_half = pow_pos (8 * n - 1) }

-- ---- moved up
module _ {w n x : ℕ} (z : Sized w n x) where
  raised_small : raised w n x < 2 ^ (8 * w)
  unfolding raised
  raised_small =
      let f = z.few in
      let e : 8 * w ≡ 8 * n + 8 * (w - n) = omega arith in
      rw (e, pow-add 2 (8 * n) (8 * (w - n))) (mul-lt-mul_of_pos_right z.small (pow_pos (8 * (w - n))))

  pub raised_is : w ≤ 8 → x * 2 ^ (8 * (w - n)) % 2 ^ 64 ≡ raised w n x
  unfolding raised
  raised_is b = let l : 2 ^ (8 * w) ≤ 2 ^ 64 = pow_mono {i = 8 * w} {j = 64} (omega arith) in omega (arith, raised_small)

  pub raised_less : w ≤ 8 → x * 2 ^ (8 * (w - n)) % 2 ^ 64 < 2 ^ (8 * w)
  raised_less b = rw (raised_is b) raised_small

pub ruleset sign_laws = (minus_fits, minus_back, plus_is, rules)

pub ruleset raise_laws = (raised_is, raised_less, rules)
