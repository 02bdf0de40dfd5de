-- The annotation item: a visibility, then an annotation body at depth 1.
use Rattle.std.specs.Prelude.{ℕ, ◌+◌, List, length, get_or, ltb, leb}
use Rattle.refusal.specs.Refusals.{runs_past, unknown_kind}
use Rattle.refusal.specs.Outcome.{Outcome, answer, ◌>>=◌, given}
use Rattle.frame.specs.declared.Frame.{Frame}
use Rattle.value_heads.specs.Kinds.{walk_of}
use Rattle.encoded_value.specs.Tree.{Annotation}
use Rattle.encoded_value.specs.Depth.{deepest}
use Rattle.encoded_value.specs.Readings.{annotation_at}
use Rattle.decoded_value.specs.Shown.{shown}
use Rattle.value_bodies.specs.Bodies.{ShownElement, pick}

-- what an annotation item says, and where it is
pub record AnnotationItem : Type 0 where
  pub place : ℕ
  pub visibility : ℕ
  pub annotation : Annotation

-- an annotation read out: its visibility, its type, and how many elements it has
pub record Summary : Type 0 where
  pub visibility : ℕ
  pub type_index : ℕ
  pub count : ℕ

-- "18: visibility over 2"; 9 where the byte is missing
unfoldable pub visibility_at : List ℕ → ℕ → Outcome ℕ
visibility_at s item = given (ltb item (length s)) (runs_past item) (given (leb (get_or s item 0) 2) (unknown_kind item) (answer (get_or s item 0)))

module _ (s : List ℕ) (frame : Frame) (item : ℕ) where
  unfoldable pub item_at : Outcome AnnotationItem
  item_at = do
    v ← visibility_at s item
    a ← annotation_at s (walk_of frame item) deepest (item + 1)
    answer (record { place = item; visibility = v; annotation = a.item })

  -- what code keeps
  unfoldable pub item_visibility : Outcome ℕ
  item_visibility = do
    a ← item_at
    answer a.visibility

  unfoldable pub item_summary : Outcome Summary
  item_summary = do
    a ← item_at
    answer (record { visibility = a.visibility; type_index = a.annotation.type_index; count = length a.annotation.elements })

  unfoldable pub item_element : ℕ → Outcome ShownElement
  item_element k = do
    a ← item_at
    e ← pick k a.annotation.elements
    answer (record { name = e.name; value = shown e.value })
