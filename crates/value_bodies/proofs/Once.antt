-- What an answer of the code says, no other answer says: a contract `outcome r ≡ reading` allows one answer.
-- Assumes nothing.
use Prim.Native.Nat.{ℕ}
use mathlib.Core.Path.{◌≡◌, refl}
use Rattle.std.specs.Prelude.{Result}
use Rattle.refusal.specs.declared.Refusal.{Refusal}
use Rattle.refusal.proofs.Kept.{outcome_once, same_once}
use Rattle.decoded_value.specs.declared.Value.{Value}
use Rattle.decoded_value.specs.Shown.{value_shown}
use Rattle.decoded_value.proofs.Once.{value_back, value_back_told}
use Rattle.value_bodies.specs.declared.AnnotationHead.{AnnotationHead}
use Rattle.value_bodies.specs.declared.Element.{Element}
use Rattle.value_bodies.specs.Bodies.{Noted, ShownElement}
use Rattle.value_bodies.specs.Answers.{count_outcome, picked_outcome, annotation_head_outcome, element_outcome}

pub count_once : (x y : Result ℕ Refusal) → count_outcome x ≡ count_outcome y → x ≡ y
count_once = same_once

pub picked_once : (x y : Result Value Refusal) → picked_outcome x ≡ picked_outcome y → x ≡ y
picked_once = outcome_once value_shown value_back value_back_told

pub head_once : (x y : Result AnnotationHead Refusal) → annotation_head_outcome x ≡ annotation_head_outcome y → x ≡ y
head_once = outcome_once _ (λ (a : Noted). record { type_index = a.type_index; count = a.count }) (λ x. refl)

pub element_once : (x y : Result Element Refusal) → element_outcome x ≡ element_outcome y → x ≡ y
element_once = outcome_once _ (λ (e : ShownElement). record { name = e.name; value = value_back e.value }) (λ x i. record { name = x.name; value = value_back_told x.value i })
