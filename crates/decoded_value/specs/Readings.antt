-- One value read out, as a reading.
use Rattle.std.specs.Prelude.{ℕ, List, Result}
use Rattle.refusal.specs.Outcome.{Outcome, answer, ◌>>=◌}
use Rattle.refusal.specs.Rows.{Found}
use Rattle.value_heads.specs.declared.Walk.{Walk}
use Rattle.encoded_value.specs.Tree.{Tree}
use Rattle.encoded_value.specs.Readings.{value_at, array_at, annotation_at, as_array, as_annotation}
use Rattle.decoded_value.specs.Shown.{Shown, shown, value_shown}
use Rattle.refusal.specs.Answers.{found, outcome}
use Rattle.refusal.specs.declared.Refusal.{Refusal}
use Rattle.decoded_value.specs.declared.Value as V
use Rattle.refusal.specs.declared.Read as R

abbrev pub read_out : Found Tree ℕ → Outcome (Found Shown ℕ)
read_out r = answer (record { item = shown r.item; next = r.next })

-- the value at a place where so many bodies may still be opened
unfoldable pub decoded_at : List ℕ → Walk → ℕ → ℕ → Outcome (Found Shown ℕ)
decoded_at s w left p = value_at s w left p >>= read_out

-- a nested body by itself
unfoldable pub decoded_array : List ℕ → Walk → ℕ → ℕ → Outcome (Found Shown ℕ)
decoded_array s w left p = array_at s w left p >>= as_array p >>= read_out

unfoldable pub decoded_annotation : List ℕ → Walk → ℕ → ℕ → Outcome (Found Shown ℕ)
decoded_annotation s w left p = annotation_at s w left p >>= as_annotation p >>= read_out

-- what the answer of the code says
abbrev pub decoded_outcome : Result (R.Read V.Value) Refusal → Outcome (Found Shown ℕ)
decoded_outcome = outcome (found (λ (v : V.Value). value_shown v))
