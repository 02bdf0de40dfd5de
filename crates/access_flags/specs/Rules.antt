-- "Access flags come out as bit numbers 0 to 17, rising, bits 6 and 7 omitted for classes": which numbers they are, with no walk over the bits.
use Rattle.std.specs.Prelude.{ℕ, ◌^◌, ◌%◌, ◌/◌, ◌<◌, ◌≡◌, ◌↔◌, Bool, true, List}
use Rattle.refusal.specs.Exact.{At, Rising}

-- bit i of the value is set, and it is one that comes out
pub record IsFlag (class : Bool) (value i : ℕ) : Type 0 where
  pub bit : value / 2 ^ i % 2 ≡ 1
  pub low : i < 18
  pub not_of_classes : class ≡ true → (i ≡ 6 → ⊥) × (i ≡ 7 → ⊥)

-- a number stands in the list exactly where it is one of them, and the list rises
pub record FlagsRule (class : Bool) (value : ℕ) (l : List ℕ) : Type 0 where
  pub numbers : (i : ℕ) → ((k : ℕ) × At l k i) ↔ IsFlag class value i
  pub rising : Rising ◌<◌ l
