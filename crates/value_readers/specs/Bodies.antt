-- Arrays and annotation bodies by place as readings. "A body asked for by place is depth 1 and is itself the item."
use Rattle.std.specs.Prelude.{ℕ, ◌-◌, List}
use Rattle.refusal.specs.Outcome.{Outcome, answer, ◌>>=◌}
use Rattle.header.specs.Header.{up_to_end}
use Rattle.value_heads.specs.declared.Walk.{Walk}
use Rattle.encoded_value.specs.Depth.{deepest}
use Rattle.encoded_value.specs.Readings.{past_array, past_annotation}
use Rattle.decoded_value.specs.Shown.{Shown}
use Rattle.value_bodies.specs.Bodies.{ShownElement, array_count, array_value, annotation_noted, annotation_element}
use Rattle.value_readers.specs.Opening.{walk_in, opened_within}

-- how many values an array has, and its length in bytes
pub record ArraySize : Type 0 where
  pub count : ℕ
  pub length : ℕ

unfoldable pub array_body : List ℕ → Walk → ℕ → Outcome ArraySize
array_body s w p = do
  n ← array_count s w p
  end ← past_array s w deepest p
  answer (record { count = n; length = end - p })

unfoldable pub array_of : List ℕ → ℕ → Outcome ArraySize
array_of f place = opened_within f place >>= λ o. array_body (up_to_end f o.header) (walk_in o.header o.handles place) place

unfoldable pub array_value_of : List ℕ → ℕ → ℕ → Outcome Shown
array_value_of f place k = opened_within f place >>= λ o. array_value (up_to_end f o.header) (walk_in o.header o.handles place) place k

-- the same of an annotation body, with its type
pub record NotedSize : Type 0 where
  pub type_index : ℕ
  pub count : ℕ
  pub length : ℕ

unfoldable pub noted_body : List ℕ → Walk → ℕ → Outcome NotedSize
noted_body s w p = do
  n ← annotation_noted s w p
  end ← past_annotation s w deepest p
  answer (record { type_index = n.type_index; count = n.count; length = end - p })

unfoldable pub body_of : List ℕ → ℕ → Outcome NotedSize
body_of f place = opened_within f place >>= λ o. noted_body (up_to_end f o.header) (walk_in o.header o.handles place) place

unfoldable pub body_element_of : List ℕ → ℕ → ℕ → Outcome ShownElement
body_element_of f place k = opened_within f place >>= λ o. annotation_element (up_to_end f o.header) (walk_in o.header o.handles place) place k
