-- What an answer of the code says, no other answer says.
-- Assumes nothing.
use mathlib.Core.Path.{◌≡◌}
use Rattle.std.specs.Prelude.{Result}
use Rattle.refusal.specs.declared.Refusal.{Refusal}
use Rattle.refusal.proofs.Kept.{same_once}
use Rattle.class_ids.specs.declared.Class.{Class}
use Rattle.class_ids.specs.Answers.{class_outcome}

pub class_once : (x y : Result Class Refusal) → class_outcome x ≡ class_outcome y → x ≡ y
class_once = same_once
