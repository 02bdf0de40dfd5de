-- What the answers of the code say.
use Rattle.std.specs.Prelude.{ℕ, ℤ, Result}
use Rattle.std.specs.Prelude as S
use Rattle.std.proofs.Math.Option.{Option}
use Rattle.refusal.specs.Outcome.{Outcome}
use Rattle.refusal.specs.Rows.{Found}
use Rattle.refusal.specs.Answers.{outcome, found, maybe}
use Rattle.refusal.specs.declared.Refusal.{Refusal}
use Rattle.refusal.specs.declared.Read as R
use Rattle.leb128.specs.Leb.{Weighing}
use Rattle.leb128.specs.declared.Weighed as W

abbrev pub weighing_of : W.Weighed → Weighing
weighing_of w = record { value = w.value; full = w.scale; next = w.next }

abbrev pub weighed_outcome : Result W.Weighed Refusal → Outcome Weighing
weighed_outcome = outcome weighing_of

abbrev pub leb_outcome : Result (R.Read ℕ) Refusal → Outcome (Found ℕ ℕ)
leb_outcome = outcome (found (λ (v : ℕ). v))

abbrev pub signed_outcome : Result (R.Read ℤ) Refusal → Outcome (Found ℤ ℕ)
signed_outcome = outcome (found (λ (v : ℤ). v))

abbrev pub plus_one_outcome : Result (R.Read (S.Option ℕ)) Refusal → Outcome (Found (Option ℕ) ℕ)
plus_one_outcome = outcome (found (maybe (λ (v : ℕ). v)))
