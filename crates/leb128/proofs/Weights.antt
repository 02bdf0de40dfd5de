-- The weight of a number's bytes: it is below their scale, it grows at the end, and its range says what the fifth byte is.
-- Assumes nothing.
use Prim.Native.Nat.{ℕ, ◌+◌, ◌-◌, ◌*◌, ◌%◌, ◌^◌, ◌<◌, ◌≤◌}
use mathlib.Core.Path.{◌≡◌, refl}
use mathlib.Core.Logic.{◌⊎◌, inl, inr}
use mathlib.Core.List.{List, [], ◌∷◌, ◌++◌}
use lib.ListN.{length}
use native.Mathlib.Nat.{pow-succ'}
use native.Mathlib.Omega.{arith}
use Rattle.refusal.specs.Exact.{here, there}
use Rattle.leb128.specs.Leb.{weight, scale, fifth}
use Rattle.leb128.specs.Rules.{Groups}

pub scale_cons : (b : ℕ) (bs : List ℕ) → scale (b ∷ bs) ≡ 128 * scale bs
unfolding scale
scale_cons b bs = rw (pow-succ' 128 (length bs)) (omega arith)

scale_none : 0 < scale []
unfolding scale
scale_none = omega arith

pub weight_small : (bs : List ℕ) → weight bs < scale bs
unfolding weight
weight_small [] = scale_none
weight_small (b ∷ bs) = let h = weight_small bs in let e = scale_cons b bs in omega arith

-- one more byte at the end
pub scale_more : (bs : List ℕ) (b : ℕ) → scale (bs ++ b ∷ []) ≡ scale bs * 128
unfolding scale
scale_more [] b = refl
scale_more (a ∷ bs) b = let h = scale_more bs b in let e = scale_cons a (bs ++ b ∷ []) in let f = scale_cons a bs in omega arith

pub weight_more : (bs : List ℕ) (b : ℕ) → weight (bs ++ b ∷ []) ≡ weight bs + scale bs * (b % 128)
unfolding weight scale
weight_more [] b = omega arith
weight_more (a ∷ bs) b = go (weight (bs ++ b ∷ [])) (weight bs) (scale bs) (scale (a ∷ bs)) (weight_more bs b) (scale_cons a bs)
  where
    go : (w v m n : ℕ) → w ≡ v + m * (b % 128) → n ≡ 128 * m → a % 128 + 128 * w ≡ a % 128 + 128 * v + n * (b % 128)
    go w v m n e f = rw (e, f) (omega arith)

-- what the range of the weight says of the fifth byte
pub record Fifth (bs : List ℕ) : Type 0 where
  pub most : scale bs ≤ 2 ^ 35
  pub low : weight bs < 2 ^ 32 → fifth bs ≤ 0x0f
  pub high : 2 ^ 32 ≤ weight bs → 0x0f < fifth bs
  pub plus_low : 2 * weight bs < scale bs → weight bs < 2 ^ 31 → fifth bs ≤ 0x07
  pub plus_high : 2 * weight bs < scale bs → 2 ^ 31 ≤ weight bs → (0x07 < fifth bs) × (fifth bs < 0x78)
  pub minus_low : scale bs ≤ 2 * weight bs → scale bs - weight bs ≤ 2 ^ 31 → (fifth bs ≤ 0x07) ⊎ (0x78 ≤ fifth bs)
  pub minus_high : scale bs ≤ 2 * weight bs → 2 ^ 31 < scale bs - weight bs → (0x07 < fifth bs) × (fifth bs < 0x78)

-- fewer than five bytes: there is no fifth byte, and the weight is small
shorter : (bs : List ℕ) → fifth bs ≡ 0 → scale bs ≤ 2 ^ 28 → Fifth bs
shorter bs none m =
    let w = weight_small bs in
    record {
      most = omega arith;
      low = λ p. omega arith;
      high = λ p. omega arith;
      plus_low = λ p q. omega arith;
      plus_high = λ p q. absurd (omega arith);
      minus_low = λ p q. inl (omega arith);
      minus_high = λ p q. absurd (omega arith);
    }

pub fifth_byte : (bs : List ℕ) → Groups 5 bs → Fifth bs
unfolding weight scale
fifth_byte [] g = absurd (let h = g.some_byte in omega arith)
fifth_byte (a ∷ []) g = shorter _ refl (omega arith)
fifth_byte (a ∷ b ∷ []) g = shorter _ refl (omega arith)
fifth_byte (a ∷ b ∷ c ∷ []) g = shorter _ refl (omega arith)
fifth_byte (a ∷ b ∷ c ∷ d ∷ []) g = shorter _ refl (omega arith)
fifth_byte (a ∷ b ∷ c ∷ d ∷ e ∷ []) g =
    let last = g.stops (there (there (there (there here)))) refl in
    record {
      most = omega arith;
      low = λ p. omega arith;
      high = λ p. omega arith;
      plus_low = λ p q. omega arith;
      plus_high = λ p q. (omega arith, omega arith);
      minus_low = λ p q. inr (omega arith);
      minus_high = λ p q. (omega arith, omega arith);
    }
fifth_byte (a ∷ b ∷ c ∷ d ∷ e ∷ f ∷ bs) g = absurd (let h = g.few in omega arith)
