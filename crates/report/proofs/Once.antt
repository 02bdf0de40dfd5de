-- What an answer of the code says, no other answer says.
-- Assumes nothing.
use Prim.Native.Nat.{ℕ}
use mathlib.Core.Path.{◌≡◌}
use Rattle.std.specs.Prelude.{Result}
use Rattle.refusal.specs.declared.Refusal.{Refusal}
use Rattle.refusal.proofs.Kept.{same_once}
use Rattle.report.specs.Answers.{report_outcome}

pub report_once : (x y : Result ℕ Refusal) → report_outcome x ≡ report_outcome y → x ≡ y
report_once = same_once
