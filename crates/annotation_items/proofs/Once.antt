-- What an answer of the code says, no other answer says: a contract `outcome r ≡ reading` allows one answer.
-- Assumes nothing.
use mathlib.Core.Path.{◌≡◌, refl}
use Rattle.refusal.proofs.Kept.{outcome_once, same_once}
use Rattle.std.specs.Prelude.{ℕ, Result}
use Rattle.annotation_items.specs.Items.{Summary}
use Rattle.refusal.specs.declared.Refusal.{Refusal}
use Rattle.annotation_items.specs.declared.Summary as A
use Rattle.annotation_items.specs.Answers.{visibility_outcome, summary_outcome}

pub visibility_once : (x y : Result ℕ Refusal) → visibility_outcome x ≡ visibility_outcome y → x ≡ y
visibility_once = same_once

pub summary_once : (x y : Result A.Summary Refusal) → summary_outcome x ≡ summary_outcome y → x ≡ y
summary_once = outcome_once (λ (x : A.Summary). record { visibility = x.visibility; type_index = x.type_index; count = x.count }) (λ (r : Summary). record { visibility = r.visibility; type_index = r.type_index; count = r.count }) (λ x. refl)
