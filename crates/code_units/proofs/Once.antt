-- What an answer of the code says, no other answer says: a contract `outcome r ≡ reading` allows one answer.
-- Assumes nothing.
use Prim.Native.Nat.{ℕ}
use mathlib.Core.Path.{◌≡◌}
use Rattle.std.specs.Prelude.{Result}
use Rattle.refusal.specs.declared.Refusal.{Refusal}
use Rattle.refusal.proofs.Kept.{same_once}
use Rattle.code_units.specs.Answers.{units_outcome}

pub units_once : (x y : Result ℕ Refusal) → units_outcome x ≡ units_outcome y → x ≡ y
units_once = same_once
