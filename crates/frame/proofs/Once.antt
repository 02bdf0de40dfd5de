-- What an answer of the code says, no other answer says: a contract `outcome r ≡ reading` allows one answer.
-- Assumes nothing.
use Prim.Native.Nat.{ℕ}
use mathlib.Core.Path.{◌≡◌}
use Rattle.std.specs.Prelude.{Result}
use Rattle.refusal.specs.declared.Refusal.{Refusal}
use Rattle.refusal.specs.Answers.{as_given}
use Rattle.refusal.proofs.Kept.{same_once}

pub counted_once : (x y : Result ℕ Refusal) → as_given x ≡ as_given y → x ≡ y
counted_once = same_once
