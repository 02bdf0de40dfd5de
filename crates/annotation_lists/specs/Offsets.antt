-- Annotation sets and reference lists: a size, then offsets. `s` is the file up to the data section's end; every fault is at the item.
use Rattle.std.specs.Prelude.{ℕ, ◌+◌, Bool, true, false, cond, List, length, leb}
use Rattle.refusal.specs.Refusals.{runs_past, wrong_offset}
use Rattle.refusal.specs.Outcome.{Outcome, answer, ◌>>=◌, given, accepted}
use Rattle.word.specs.Words.{u32_at}
use Rattle.frame.specs.declared.Frame.{Frame}
use Rattle.frame.specs.Offsets.{allowed, allowed_or_absent}
use Rattle.value_bodies.specs.Bodies.{pick}
use Rattle.annotation_lists.specs.Fixed.{entries_from, fixed_at}

-- "Offset 0 means absent for .. class annotations .. and entries of an annotation set reference list; elsewhere it is refused (8)."
unfoldable pub offset_allowed : ℕ → ℕ → Bool → Bool → ℕ → Bool
offset_allowed start end absent four x = cond absent (allowed_or_absent start end four x) (allowed start end four x)

-- a word of four bytes: 9 where it is missing
unfoldable pub word_at : List ℕ → Frame → ℕ → ℕ → Outcome ℕ
word_at s frame item p = given (leb (p + 4) (length s)) (runs_past item) (answer (u32_at frame.order s p))

-- lists of offsets: is 0 an absent item, and must the others be multiples of 4
module _ (s : List ℕ) (frame : Frame) (item : ℕ) (absent four : Bool) where
  unfoldable pub offset_of : ℕ → Outcome ℕ
  offset_of x = given (offset_allowed frame.start (length s) absent four x) (wrong_offset item) (answer x)

  unfoldable pub offset_at : ℕ → Outcome ℕ
  offset_at p = offset_of (u32_at frame.order s p)

  unfoldable pub offsets_at : Outcome (List ℕ)
  offsets_at = do
    count ← word_at s frame item item
    fixed_at s item offset_at 4 (item + 4) count

  -- what code keeps: how many, or number k
  unfoldable pub offset_count : Outcome ℕ
  offset_count = do
    l ← offsets_at
    answer (length l)

  unfoldable pub offset_number : ℕ → Outcome ℕ
  offset_number k = do
    l ← offsets_at
    pick k l

  -- a stage of the code: all offsets from a place on
  abbrev pub offsets_pass : ℕ → ℕ → Outcome Unit
  offsets_pass from count = entries_from offset_at 4 from count >>= accepted

-- a set holds no absent item, and annotation items need no alignment
abbrev pub set_at : List ℕ → Frame → ℕ → Outcome (List ℕ)
set_at s frame item = offsets_at s frame item false false

-- "Multiples of 4: .. annotation directories, sets and reference lists."
abbrev pub references_at : List ℕ → Frame → ℕ → Outcome (List ℕ)
references_at s frame item = offsets_at s frame item true true
