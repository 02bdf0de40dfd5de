-- What an answer of the code says, no other answer says.
-- Assumes nothing.
use mathlib.Core.Path.{◌≡◌, refl}
use Rattle.refusal.proofs.Kept.{outcome_once}
use Rattle.value_readers.specs.Bodies.{ArraySize, NotedSize}
use Rattle.std.specs.Prelude.{Result}
use Rattle.refusal.specs.declared.Refusal.{Refusal}
use Rattle.value_readers.specs.declared.ArrayOutline as A
use Rattle.value_readers.specs.declared.BodyOutline as B
use Rattle.value_readers.specs.Answers.{array_outcome, body_outcome}

pub array_once : (x y : Result A.ArrayOutline Refusal) → array_outcome x ≡ array_outcome y → x ≡ y
array_once = outcome_once (λ (x : A.ArrayOutline). record { count = x.count; length = x.length }) (λ (r : ArraySize). record { count = r.count; length = r.length }) (λ x. refl)

pub body_once : (x y : Result B.BodyOutline Refusal) → body_outcome x ≡ body_outcome y → x ≡ y
body_once = outcome_once (λ (x : B.BodyOutline). record { type_index = x.type_index; count = x.count; length = x.length }) (λ (r : NotedSize). record { type_index = r.type_index; count = r.count; length = r.length }) (λ x. refl)
