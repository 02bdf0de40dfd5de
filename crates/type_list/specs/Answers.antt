-- What the answers of the code say.
use Rattle.std.specs.Prelude.{ℕ, Result}
use Rattle.refusal.specs.Outcome.{Outcome}
use Rattle.refusal.specs.Answers.{outcome}
use Rattle.refusal.specs.declared.Refusal.{Refusal}

abbrev pub count_outcome : Result ℕ Refusal → Outcome ℕ
count_outcome = outcome (λ (n : ℕ). n)

abbrev pub type_outcome : Result ℕ Refusal → Outcome ℕ
type_outcome = outcome (λ (n : ℕ). n)
