-- What the answers of the code say.
use Rattle.std.specs.Prelude.{ℕ, Result}
use Rattle.refusal.specs.Outcome.{Outcome}
use Rattle.refusal.specs.Answers.{outcome}
use Rattle.refusal.specs.declared.Refusal.{Refusal}

abbrev pub word_outcome : Result ℕ Refusal → Outcome ℕ
word_outcome = outcome (λ (n : ℕ). n)
