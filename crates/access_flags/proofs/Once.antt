-- What an answer of the code says, no other answer says.
-- Assumes nothing.
use Prim.Native.Nat.{ℕ}
use mathlib.Core.Path.{◌≡◌}
use Rattle.std.specs.Prelude.{Result}
use Rattle.refusal.specs.declared.Refusal.{Refusal}
use Rattle.refusal.proofs.Kept.{same_once}
use Rattle.access_flags.specs.Answers.{flags_outcome}

pub flags_once : (x y : Result ℕ Refusal) → flags_outcome x ≡ flags_outcome y → x ≡ y
flags_once = same_once
