-- What the answers of the code say.
use Rattle.std.specs.Prelude.{ℕ, Result}
use Rattle.refusal.specs.Outcome.{Outcome}
use Rattle.refusal.specs.Answers.{outcome}
use Rattle.refusal.specs.declared.Refusal.{Refusal}

abbrev pub units_outcome : Result ℕ Refusal → Outcome ℕ
units_outcome = outcome (λ (n : ℕ). n)
