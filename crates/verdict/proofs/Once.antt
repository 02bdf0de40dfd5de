-- A contract over a verdict allows one answer.
-- Assumes nothing.
use mathlib.Core.Path.{◌≡◌}
use Rattle.std.specs.Prelude.{Result}
use Rattle.refusal.specs.declared.Refusal.{Refusal}
use Rattle.refusal.proofs.Kept.{same_once}
use Rattle.header.specs.declared.Header.{Header}
use Rattle.verdict.specs.Answers.{verdict_outcome}

pub verdict_once : (x y : Result Header Refusal) → verdict_outcome x ≡ verdict_outcome y → x ≡ y
verdict_once = same_once
