-- What the answers of the code say.
use Rattle.std.specs.Prelude.{ℕ, Result}
use Rattle.refusal.specs.Outcome.{Outcome}
use Rattle.decoded_value.specs.Shown.{Shown, value_shown}
use Rattle.value_bodies.specs.Bodies.{Noted, ShownElement}
use Rattle.refusal.specs.Answers.{outcome}
use Rattle.refusal.specs.declared.Refusal.{Refusal}
use Rattle.decoded_value.specs.declared.Value as V
use Rattle.value_bodies.specs.declared.AnnotationHead as A
use Rattle.value_bodies.specs.declared.Element as E

abbrev pub count_outcome : Result ℕ Refusal → Outcome ℕ
count_outcome = outcome (λ (n : ℕ). n)

abbrev pub picked_outcome : Result V.Value Refusal → Outcome Shown
picked_outcome = outcome (λ (v : V.Value). value_shown v)

abbrev pub annotation_head_outcome : Result A.AnnotationHead Refusal → Outcome Noted
annotation_head_outcome = outcome (λ (x : A.AnnotationHead). record { type_index = x.type_index; count = x.count })

abbrev pub element_outcome : Result E.Element Refusal → Outcome ShownElement
element_outcome = outcome (λ (x : E.Element). record { name = x.name; value = value_shown x.value })
