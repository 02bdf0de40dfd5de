-- What an answer of the code says, no other answer says.
-- Assumes nothing.
use mathlib.Core.Path.{◌≡◌}
use Rattle.std.specs.Prelude.{Result}
use Rattle.refusal.specs.declared.Refusal.{Refusal}
use Rattle.refusal.proofs.Kept.{same_once}
use Rattle.header.specs.declared.Header.{Header}
use Rattle.header.specs.Answers.{header_outcome}

pub header_once : (x y : Result Header Refusal) → header_outcome x ≡ header_outcome y → x ≡ y
header_once = same_once
