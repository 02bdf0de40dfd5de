-- What an answer of the code says, no other answer says.
-- Assumes nothing.
use Prim.Native.Nat.{ℕ}
use mathlib.Core.Path.{◌≡◌}
use Rattle.std.specs.Prelude.{Result}
use Rattle.refusal.specs.declared.Refusal.{Refusal}
use Rattle.refusal.proofs.Kept.{same_once}
use Rattle.type_list.specs.Answers.{count_outcome, type_outcome}

pub count_once : (x y : Result ℕ Refusal) → count_outcome x ≡ count_outcome y → x ≡ y
count_once = same_once

pub type_once : (x y : Result ℕ Refusal) → type_outcome x ≡ type_outcome y → x ≡ y
type_once = same_once
