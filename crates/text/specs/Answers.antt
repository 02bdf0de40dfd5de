-- What the answers of the code say.
use Rattle.std.specs.Prelude.{ℕ, Result}
use Rattle.refusal.specs.Outcome.{Outcome}
use Rattle.refusal.specs.Rows.{Found, Next, more}
use Rattle.text.specs.Text.{Extent}
use Rattle.refusal.specs.Answers.{outcome}
use Rattle.refusal.specs.declared.Refusal.{Refusal}
use Rattle.refusal.specs.declared.Read as R
use Rattle.text.specs.declared.UnitCount as U
use Rattle.text.specs.declared.TextPlace as T

abbrev pub wide_outcome : Result (R.Read ℕ) Refusal → Outcome (Next ℕ ℕ)
wide_outcome = outcome (λ (x : R.Read ℕ). more x.value x.next)

abbrev pub count_outcome : Result U.UnitCount Refusal → Outcome (Found ℕ ℕ)
count_outcome = outcome (λ (x : U.UnitCount). record { item = x.units; next = x.zero })

abbrev pub text_outcome : Result T.TextPlace Refusal → Outcome Extent
text_outcome = outcome (λ (x : T.TextPlace). record { start = x.start; length = x.length; units = x.units })
