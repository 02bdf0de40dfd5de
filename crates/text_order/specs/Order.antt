-- The order of texts: by the first 16-bit unit in which they differ, and a text that ends comes before one that goes on.
use Rattle.std.specs.Prelude.{ℕ, ◌+◌, ◌<◌, Bool, true, false, cond, List, [], ◌∷◌, ltb, eqb}
use Rattle.std.specs.declared.cmp.Ordering.{Ordering}
use Rattle.std.specs.declared.cmp.Ordering.TheVariants.{Less, Equal, Greater}

-- as a relation
pub data Before : List ℕ → List ℕ → Type 0 where
  ends : {b : ℕ} {y : List ℕ} → Before [] (b ∷ y)
  lower : {a b : ℕ} {x y : List ℕ} → a < b → Before (a ∷ x) (b ∷ y)
  alike : {a : ℕ} {x y : List ℕ} → Before x y → Before (a ∷ x) (a ∷ y)

-- as an answer
unfoldable pub compared : List ℕ → List ℕ → Ordering
compared [] [] = Equal
compared [] (b ∷ y) = Less
compared (a ∷ x) [] = Greater
compared (a ∷ x) (b ∷ y) = cond (ltb a b) Less (cond (ltb b a) Greater (compared x y))

-- "c0 80 stands before 01": c0 begins no other form, and comes before every other byte
unfoldable pub key : ℕ → ℕ
key b = cond (eqb b 0xc0) 0 (b + 1)

unfoldable pub keys : List ℕ → List ℕ
keys [] = []
keys (b ∷ x) = key b ∷ keys x

-- the order of bytes by their keys; of the bytes of two texts it is the order of their units (proofs/ByUnits)
unfoldable pub by_key : List ℕ → List ℕ → Ordering
by_key x y = compared (keys x) (keys y)

-- which of two bytes that differ comes first
unfoldable pub earlier : ℕ → ℕ → Ordering
earlier a b = cond (ltb (key a) (key b)) Less Greater

unfoldable pub is_less : Ordering → Bool
is_less Less = true
is_less Equal = false
is_less Greater = false

unfoldable pub is_equal : Ordering → Bool
is_equal Less = false
is_equal Equal = true
is_equal Greater = false
