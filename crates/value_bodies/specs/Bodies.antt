-- Arrays and annotations by number, as readings: the body whole, then 7 for a number that is not there. A top body is depth 1.
use Rattle.std.specs.Prelude.{ℕ, zero, suc, Bool, true, false, List, [], ◌∷◌, length}
use Rattle.refusal.specs.Refusals.{not_there}
use Rattle.refusal.specs.Outcome.{Outcome, answer, refused, ◌>>=◌}
use Rattle.value_heads.specs.declared.Walk.{Walk}
use Rattle.value_heads.specs.Readings.{index_at}
use Rattle.encoded_value.specs.Depth.{deepest, deepest_value}
use Rattle.encoded_value.specs.Readings.{array_at, annotation_at}
use Rattle.encoded_value.specs.Stages.{past_values}
use Rattle.decoded_value.specs.Shown.{Shown, shown}
use Rattle.decoded_value.specs.Readings.{decoded_at}

-- number k of a list: "7: the caller asks for a number that is not there"
unfoldable pub pick : {A : Type 0} → ℕ → List A → Outcome A
pick k [] = refused not_there
pick zero (a ∷ l) = answer a
pick (suc k) (a ∷ l) = pick k l

-- an annotation's type, and how many elements it has
pub record Noted : Type 0 where
  pub type_index : ℕ
  pub count : ℕ

-- an element read out
pub record ShownElement : Type 0 where
  pub name : ℕ
  pub value : Shown

module _ (s : List ℕ) (w : Walk) (p : ℕ) where
  unfoldable pub array_count : Outcome ℕ
  array_count = do
    r ← array_at s w deepest p
    answer (length r.item)

  unfoldable pub array_value : ℕ → Outcome Shown
  array_value k = do
    r ← array_at s w deepest p
    v ← pick k r.item
    answer (shown v)

  unfoldable pub annotation_noted : Outcome Noted
  annotation_noted = do
    r ← annotation_at s w deepest p
    answer (record { type_index = r.item.type_index; count = length r.item.elements })

  unfoldable pub annotation_element : ℕ → Outcome ShownElement
  annotation_element k = do
    r ← annotation_at s w deepest p
    e ← pick k r.item.elements
    answer (record { name = e.name; value = shown e.value })

  -- stages of the code: what stands behind k elements of an annotation, or k values of an array
  abbrev pub past : Bool → ℕ → Outcome ℕ
  past named k = past_values s w named deepest_value k p

  unfoldable pub value_there : Outcome Shown
  value_there = do
    v ← decoded_at s w deepest_value p
    answer v.item

  unfoldable pub element_there : Outcome ShownElement
  element_there = do
    n ← index_at s w.item w.strings p
    v ← decoded_at s w deepest_value n.next
    answer (record { name = n.item; value = v.item })

module _ (s : List ℕ) (w : Walk) (from k : ℕ) where
  unfoldable pub kth_value : Outcome Shown
  kth_value = do
    q ← past s w from false k
    value_there s w q

  unfoldable pub kth_element : Outcome ShownElement
  kth_element = do
    q ← past s w from true k
    element_there s w q
