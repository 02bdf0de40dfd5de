-- What an answer of the code says, no other answer says: a contract `outcome r ≡ reading` allows one answer.
-- Assumes nothing.
use Prim.Native.Nat.{ℕ}
use mathlib.Core.Path.{◌≡◌}
use Rattle.std.specs.Prelude.{Result}
use Rattle.refusal.specs.declared.Refusal.{Refusal}
use Rattle.refusal.proofs.Kept.{same_once}
use Rattle.encoded_value.specs.Answers.{step_outcome}

pub step_once : (x y : Result ℕ Refusal) → step_outcome x ≡ step_outcome y → x ≡ y
step_once = same_once
