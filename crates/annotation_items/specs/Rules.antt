-- The annotation item as a rule: what stands where, with no walk.
use Rattle.std.specs.Prelude.{ℕ, ◌+◌, ◌<◌, ◌≤◌, ◌≡◌, List, length, get_or}
use Rattle.frame.specs.declared.Frame.{Frame}
use Rattle.value_heads.specs.Kinds.{walk_of}
use Rattle.encoded_value.specs.Rules.{AnnotationRule}
use Rattle.annotation_items.specs.Items.{AnnotationItem}

pub record AnnotationItemRule (s : List ℕ) (frame : Frame) (item : ℕ) (a : AnnotationItem) : Type 0 where
  pub place : item ≡ a.place
  pub room : item < length s
  pub visibility : get_or s item 0 ≡ a.visibility
  pub visible : a.visibility ≤ 2
  pub ends : ℕ
  pub body : AnnotationRule s (walk_of frame item) (item + 1) a.annotation ends
