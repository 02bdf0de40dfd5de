-- What the answers of the code say.
use Rattle.std.specs.Prelude.{ℕ, Result}
use Rattle.refusal.specs.Outcome.{Outcome}
use Rattle.annotation_items.specs.Items.{Summary}
use Rattle.refusal.specs.Answers.{outcome}
use Rattle.refusal.specs.declared.Refusal.{Refusal}
use Rattle.annotation_items.specs.declared.Summary as A

abbrev pub visibility_outcome : Result ℕ Refusal → Outcome ℕ
visibility_outcome = outcome (λ (v : ℕ). v)

abbrev pub summary_outcome : Result A.Summary Refusal → Outcome Summary
summary_outcome = outcome (λ (x : A.Summary). record { visibility = x.visibility; type_index = x.type_index; count = x.count })
