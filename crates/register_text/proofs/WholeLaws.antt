-- What the functions' proofs cite of floats: the halving in turn, and the ways of a float's bits.
-- Assumes nothing.
use Prim.Native.Nat.{ℕ, zero, suc, ◌+◌, ◌-◌, ◌/◌, ◌%◌, ◌≤◌, ◌<◌}
use mathlib.Core.Path.{◌≡◌, refl, ap, sym, ◌∙◌}
use mathlib.Core.Bool.{Bool, false, cond}
use lib.Dec.{leb, eqb}
use borrow.Author.Rules.{rules}
use borrow.Author.Tests.{lt-ltb, le-ltb, le-leb, lt-leb, eq-eqb, ne_eqb}
use native.Mathlib.Omega.{arith}
use Rattle.refusal.proofs.Laws.{one_less, some_left, all_left}
use Rattle.register_text.specs.Wholes.{Halves, exactly, broken, Worth, whole, not_whole, halved_by, with_sign, scaled_of, float_worth, double_worth}

-- ---- halving: before turn k, `rest` is still to be halved as often as turns are left
pub record Halving (n times rest k : ℕ) : Type 0 where
  so_far : halved_by times n ≡ halved_by (times - k) rest

pub halve_first : (n times : ℕ) → Halving n times n 0
halve_first n times = record { so_far = ap (λ (k : ℕ). halved_by k n) all_left }

module _ {n times rest k : ℕ} (h : Halving n times rest k) where
  step : k < times → halved_by (times - k) rest ≡ cond (eqb (rest % 2) 0) (halved_by (times - (k + 1)) (rest / 2)) broken
  unfolding halved_by
  step l = by (times - k) refl (some_left l) ∙ ap (λ (m : ℕ). cond (eqb (rest % 2) 0) (halved_by m (rest / 2)) broken) (one_less l)
    where
      by : (m : ℕ) → times - k ≡ m → 0 < m → halved_by m rest ≡ cond (eqb (rest % 2) 0) (halved_by (m - 1) (rest / 2)) broken
      by zero e l = absurd (omega arith)
      by (suc m) e l = let back : suc m - 1 ≡ m = omega arith in rw back

  pub halve_broken : k < times → (rest % 2 ≡ 0 → ⊥) → broken ≡ halved_by times n
  halve_broken l e = sym (h.so_far ∙ step l ∙ rw (ne_eqb (rest % 2) 0 e))

  pub halve_next : k < times → rest % 2 ≡ 0 → Halving n times (rest / 2) (k + 1)
  halve_next l e = record { so_far = h.so_far ∙ step l ∙ rw (eq-eqb (rest % 2) 0 e) }

  pub halve_done : times ≤ k → exactly rest ≡ halved_by times n
  unfolding halved_by
  halve_done l = let none : times - k ≡ 0 = omega arith in sym (h.so_far ∙ ap (λ (m : ℕ). halved_by m rest) none)

pub ruleset halve_laws = (halve_first, halve_broken, halve_next, halve_done, rules)

-- ---- with a sign
module _ (negative : Bool) (n times : ℕ) where
  pub scaled_broken : broken ≡ halved_by times n → not_whole ≡ scaled_of negative n times
  unfolding scaled_of
  scaled_broken e = ap (λ (h : Halves). with_sign negative h) e

  pub scaled_whole : {m : ℕ} → exactly m ≡ halved_by times n → whole negative m ≡ scaled_of negative n times
  unfolding scaled_of
  scaled_whole e = ap (λ (h : Halves). with_sign negative h) e

pub ruleset scaled_laws = (scaled_broken, scaled_whole, rules)

-- ---- the ways of a float's bits
module _ (bits : ℕ) where
  pub float_zero : bits % 2147483648 ≡ 0 → whole false 0 ≡ float_worth bits
  unfolding float_worth
  float_zero e = rw (eq-eqb (bits % 2147483648) 0 e)

  module _ (some : bits % 2147483648 ≡ 0 → ⊥) where
    pub float_small : bits / 8388608 % 256 < 127 → not_whole ≡ float_worth bits
    unfolding float_worth
    float_small l = rw (ne_eqb (bits % 2147483648) 0 some, lt-ltb (bits / 8388608 % 256) 127 l)

    module _ (one : 127 ≤ bits / 8388608 % 256) where
      pub float_scaled : {w : Worth} → bits / 8388608 % 256 ≤ 150 → w ≡ scaled_of (leb 2147483648 bits) (8388608 + bits % 8388608) (150 - bits / 8388608 % 256) → w ≡ float_worth bits
      unfolding float_worth
      float_scaled l e = rw (ne_eqb (bits % 2147483648) 0 some, le-ltb (bits / 8388608 % 256) 127 one, le-leb (bits / 8388608 % 256) 150 l) e

      module _ (more : 150 < bits / 8388608 % 256) where
        pub float_largest : bits % 2147483648 ≡ 1266679808 → whole (leb 2147483648 bits) 16777216 ≡ float_worth bits
        unfolding float_worth
        float_largest e = rw (ne_eqb (bits % 2147483648) 0 some, le-ltb (bits / 8388608 % 256) 127 one, lt-leb (bits / 8388608 % 256) 150 more, eq-eqb (bits % 2147483648) 1266679808 e)

        pub float_large : (bits % 2147483648 ≡ 1266679808 → ⊥) → not_whole ≡ float_worth bits
        unfolding float_worth
        float_large e = rw (ne_eqb (bits % 2147483648) 0 some, le-ltb (bits / 8388608 % 256) 127 one, lt-leb (bits / 8388608 % 256) 150 more, ne_eqb (bits % 2147483648) 1266679808 e)

pub ruleset float_laws = (float_zero, float_small, float_scaled, float_largest, float_large, rules)

module _ (bits : ℕ) where
  pub double_zero : bits % 9223372036854775808 ≡ 0 → whole false 0 ≡ double_worth bits
  unfolding double_worth
  double_zero e = rw (eq-eqb (bits % 9223372036854775808) 0 e)

  module _ (some : bits % 9223372036854775808 ≡ 0 → ⊥) where
    pub double_small : bits / 4503599627370496 % 2048 < 1023 → not_whole ≡ double_worth bits
    unfolding double_worth
    double_small l = rw (ne_eqb (bits % 9223372036854775808) 0 some, lt-ltb (bits / 4503599627370496 % 2048) 1023 l)

    module _ (one : 1023 ≤ bits / 4503599627370496 % 2048) where
      pub double_scaled : {w : Worth} → bits / 4503599627370496 % 2048 ≤ 1075 → w ≡ scaled_of (leb 9223372036854775808 bits) (4503599627370496 + bits % 4503599627370496) (1075 - bits / 4503599627370496 % 2048) → w ≡ double_worth bits
      unfolding double_worth
      double_scaled l e = rw (ne_eqb (bits % 9223372036854775808) 0 some, le-ltb (bits / 4503599627370496 % 2048) 1023 one, le-leb (bits / 4503599627370496 % 2048) 1075 l) e

      module _ (more : 1075 < bits / 4503599627370496 % 2048) where
        pub double_largest : bits % 9223372036854775808 ≡ 4845873199050653696 → whole (leb 9223372036854775808 bits) 9007199254740992 ≡ double_worth bits
        unfolding double_worth
        double_largest e = rw (ne_eqb (bits % 9223372036854775808) 0 some, le-ltb (bits / 4503599627370496 % 2048) 1023 one, lt-leb (bits / 4503599627370496 % 2048) 1075 more, eq-eqb (bits % 9223372036854775808) 4845873199050653696 e)

        pub double_large : (bits % 9223372036854775808 ≡ 4845873199050653696 → ⊥) → not_whole ≡ double_worth bits
        unfolding double_worth
        double_large e = rw (ne_eqb (bits % 9223372036854775808) 0 some, le-ltb (bits / 4503599627370496 % 2048) 1023 one, lt-leb (bits / 4503599627370496 % 2048) 1075 more, ne_eqb (bits % 9223372036854775808) 4845873199050653696 e)

pub ruleset double_laws = (double_zero, double_small, double_scaled, double_largest, double_large, rules)
