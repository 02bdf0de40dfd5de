-- What an answer of the code says, no other answer says: a contract `outcome r ≡ reading` allows one answer.
-- Assumes nothing.
use mathlib.Core.Path.{◌≡◌}
use Rattle.refusal.proofs.Kept.{same_once}
use Rattle.std.specs.Prelude.{ℕ, Result}
use Rattle.refusal.specs.declared.Refusal.{Refusal}
use Rattle.annotation_lists.specs.Answers.{word_outcome}

pub word_once : (x y : Result ℕ Refusal) → word_outcome x ≡ word_outcome y → x ≡ y
word_once = same_once
