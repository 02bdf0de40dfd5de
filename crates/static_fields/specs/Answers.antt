-- What the answers of the code say: an absent item is none.
use Rattle.std.specs.Prelude.{ℕ, Bool, Result}
use Rattle.std.proofs.Math.Option.{Option}
use Rattle.refusal.specs.Outcome.{Outcome}
use Rattle.refusal.specs.Rows.{Found}
use Rattle.decoded_value.specs.Shown.{Shown, value_shown}
use Rattle.static_fields.specs.Pairing.{StaticField, WrongKind}
use Rattle.std.specs.Prelude as S
use Rattle.refusal.specs.Answers.{found, maybe, outcome}
use Rattle.refusal.specs.declared.Refusal.{Refusal}
use Rattle.static_fields.specs.declared.StaticField as A
use Rattle.static_fields.specs.declared.WrongKind as W
use Rattle.refusal.specs.declared.Read as R

abbrev pub as_field : ℕ → ℕ → Bool → Shown → StaticField
as_field n l s v = record { field = n; flags = l; stored = s; value = v }

abbrev pub maybe_field : Result (S.Option A.StaticField) Refusal → Outcome (Option StaticField)
maybe_field = outcome (maybe (λ (x : A.StaticField). as_field x.field x.flags x.stored (value_shown x.value)))

abbrev pub maybe_wrong : Result (S.Option W.WrongKind) Refusal → Outcome (Option WrongKind)
maybe_wrong = outcome (maybe (λ (x : W.WrongKind). record { number = x.k; field = x.field }))

abbrev pub fits_outcome : Result Bool Refusal → Outcome Bool
fits_outcome = outcome (λ (b : Bool). b)

-- a kind, or whether it fits, and the place after the value
abbrev pub kind_outcome : Result (R.Read ℕ) Refusal → Outcome (Found ℕ ℕ)
kind_outcome = outcome (found (λ (k : ℕ). k))

abbrev pub fits_next_outcome : Result (R.Read Bool) Refusal → Outcome (Found Bool ℕ)
fits_next_outcome = outcome (found (λ (b : Bool). b))

-- how many, and where the first begins
abbrev pub begin_outcome : Result (R.Read ℕ) Refusal → Outcome (Found ℕ ℕ)
begin_outcome = outcome (found (λ (n : ℕ). n))
