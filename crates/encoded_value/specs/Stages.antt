-- Stages of the code: what stands behind a head byte, and one going over for both bodies.
use Rattle.std.specs.Prelude.{ℕ, Bool, true, false, cond, List, eqb}
use Rattle.refusal.specs.Outcome.{Outcome, answer, ◌>>=◌}
use Rattle.refusal.specs.Rows.{past, repeat}
use Rattle.value_heads.specs.declared.Walk.{Walk}
use Rattle.value_heads.specs.Readings.{index_at}
use Rattle.encoded_value.specs.Readings.{kind_with, array_at, annotation_at, past_value, past_array, past_annotation}

-- the body that a code opens
unfoldable pub past_opened : List ℕ → Walk → ℕ → ℕ → ℕ → Outcome ℕ
past_opened s w left code p = cond (eqb code 0x1c) (past_array s w left p) (past_annotation s w left p)

-- what stands behind a head byte h
abbrev pub past_inside : List ℕ → Walk → ℕ → ℕ → ℕ → Outcome ℕ
past_inside s w left h p = kind_with s w (array_at s w left) (annotation_at s w left) h p >>= past

-- an index below the count, in an annotation alone
unfoldable pub index_past : List ℕ → ℕ → Bool → ℕ → ℕ → Outcome ℕ
index_past s item true count p = index_at s item count p >>= past
index_past s item false count p = answer p

-- a value, behind its name in an annotation
unfoldable pub past_inner : List ℕ → Walk → Bool → ℕ → ℕ → Outcome ℕ
past_inner s w named left p = index_past s w.item named w.strings p >>= past_value s w left

abbrev pub past_values : List ℕ → Walk → Bool → ℕ → ℕ → ℕ → Outcome ℕ
past_values s w named left count from = repeat count (past_inner s w named left) from

-- the body of an annotation, or of an array
unfoldable pub past_body : List ℕ → Walk → Bool → ℕ → ℕ → Outcome ℕ
past_body s w true left p = past_annotation s w left p
past_body s w false left p = past_array s w left p
