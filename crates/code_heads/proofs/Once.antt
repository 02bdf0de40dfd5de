-- What an answer of the code says, no other answer says: a contract `outcome r ≡ reading` allows one answer.
-- Assumes nothing.
use mathlib.Core.Path.{◌≡◌}
use Rattle.std.specs.Prelude.{Result}
use Rattle.refusal.specs.declared.Refusal.{Refusal}
use Rattle.refusal.proofs.Kept.{same_once}
use Rattle.code_heads.specs.declared.CodeHead.{CodeHead}
use Rattle.code_heads.specs.Answers.{code_head_outcome}

pub head_once : (x y : Result CodeHead Refusal) → code_head_outcome x ≡ code_head_outcome y → x ≡ y
head_once = same_once
