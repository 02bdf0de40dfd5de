-- Annotation sets and reference lists as rules: what stands where, with no walk.
use Rattle.std.specs.Prelude.{ℕ, ◌+◌, ◌≤◌, ◌≡◌, Bool, true, false, List, length}
use Rattle.word.specs.Words.{u32_at}
use Rattle.frame.specs.declared.Frame.{Frame}
use Rattle.frame.specs.Offsets.{Allowed, AllowedOrAbsent}
use Rattle.annotation_lists.specs.Fixed.{Fixed}

-- where an offset may lead: may it be 0 for an absent item, and must it else be a multiple of 4
unfoldable pub OffsetAllowed : ℕ → ℕ → Bool → Bool → ℕ → Type 0
OffsetAllowed start end true four x = AllowedOrAbsent start end four x
OffsetAllowed start end false four x = Allowed start end four x

pub record OffsetRule (s : List ℕ) (frame : Frame) (item : ℕ) (absent four : Bool) (p x : ℕ) : Type 0 where
  pub stands : u32_at frame.order s p ≡ x
  pub allows : OffsetAllowed frame.start (length s) absent four x

pub record OffsetsRule (s : List ℕ) (frame : Frame) (item : ℕ) (absent four : Bool) (l : List ℕ) : Type 0 where
  pub room : item + 4 ≤ length s
  pub offsets : Fixed s (OffsetRule s frame item absent four) 4 (item + 4) (u32_at frame.order s item) l

abbrev pub SetRule : List ℕ → Frame → ℕ → List ℕ → Type 0
SetRule s frame item = OffsetsRule s frame item false false

abbrev pub ReferencesRule : List ℕ → Frame → ℕ → List ℕ → Type 0
ReferencesRule s frame item = OffsetsRule s frame item true true
