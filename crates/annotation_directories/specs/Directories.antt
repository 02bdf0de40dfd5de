-- The annotation directory: its head field by field, then fields, methods and parameters in turn.
use Rattle.std.specs.Prelude.{ℕ, ◌+◌, ◌*◌, true, cond, List, [], length, ltb, eqb}
use Rattle.refusal.specs.Refusals.{wrong_index, wrong_offset}
use Rattle.refusal.specs.Outcome.{Outcome, answer, ◌>>=◌, given, accepted}
use Rattle.refusal.specs.Rows.{Found, past}
use Rattle.word.specs.Words.{u32_at}
use Rattle.frame.specs.declared.Frame.{Frame}
use Rattle.frame.specs.Offsets.{allowed, allowed_or_absent}
use Rattle.value_bodies.specs.Bodies.{pick}
use Rattle.annotation_directories.specs.declared.DirectoryHead.{DirectoryHead}
use Rattle.annotation_lists.specs.Fixed.{entries_from, fixed_at}
use Rattle.annotation_lists.specs.Offsets.{word_at}

-- an entry: a field or method, and where its set or reference list is
pub record DirectoryEntry : Type 0 where
  pub index : ℕ
  pub offset : ℕ

-- what a directory says: its head has the class annotations' offset and three counts
pub record Directory : Type 0 where
  pub head : DirectoryHead
  pub fields : List DirectoryEntry
  pub methods : List DirectoryEntry
  pub parameters : List DirectoryEntry

module _ (s : List ℕ) (frame : Frame) (item : ℕ) where
  -- a field that is there and wrong (8) comes before a later field that is missing (9)
  unfoldable pub counts_at : ℕ → Outcome DirectoryHead
  counts_at set = do
    fields ← word_at s frame item (item + 4)
    methods ← word_at s frame item (item + 8)
    parameters ← word_at s frame item (item + 12)
    answer (record { set = set; fields = fields; methods = methods; parameters = parameters })

  unfoldable pub head_at : Outcome DirectoryHead
  head_at = do
    set ← word_at s frame item item
    given (allowed_or_absent frame.start (length s) true set) (wrong_offset item) (counts_at set)

  -- an entry whose index is below a limit: its index (11), then its offset (8)
  module _ (limit : ℕ) where
    unfoldable pub entry_of : ℕ → ℕ → Outcome DirectoryEntry
    entry_of index offset =
        given (ltb index limit) (wrong_index item)
        (given (allowed frame.start (length s) true offset) (wrong_offset item)
        (answer (record { index = index; offset = offset })))

    unfoldable pub entry_at : ℕ → Outcome DirectoryEntry
    entry_at p = entry_of (u32_at frame.order s p) (u32_at frame.order s (p + 4))

    -- one of the three lists, and where it ends
    unfoldable pub list_at : ℕ → ℕ → Outcome (Found (List DirectoryEntry) ℕ)
    list_at from count = do
      l ← fixed_at s item entry_at 8 from count
      answer (record { item = l; next = from + 8 * count })

    -- stages of the code: all entries from a place on, and where the list ends
    abbrev pub entries_pass : ℕ → ℕ → Outcome Unit
    entries_pass from count = entries_from entry_at 8 from count >>= accepted

    abbrev pub list_past : ℕ → ℕ → Outcome ℕ
    list_past from count = list_at from count >>= past

-- the three lists behind the head: "that list's length (9), then its entries". A parameter entry's index is a method
unfoldable pub lists_at : List ℕ → Frame → ℕ → DirectoryHead → Outcome Directory
lists_at s frame item h = do
  fields ← list_at s frame item frame.fields (item + 16) h.fields
  methods ← list_at s frame item frame.methods fields.next h.methods
  parameters ← list_at s frame item frame.methods methods.next h.parameters
  answer (record { head = h; fields = fields.item; methods = methods.item; parameters = parameters.item })

unfoldable pub directory_at : List ℕ → Frame → ℕ → Outcome Directory
directory_at s frame item = head_at s frame item >>= lists_at s frame item

-- a stage of the code: the three lists
abbrev pub lists_pass : List ℕ → Frame → ℕ → DirectoryHead → Outcome Unit
lists_pass s frame item h = lists_at s frame item h >>= accepted

-- what code keeps: the head, or entry k of list 0, 1 or 2
unfoldable pub directory_head : List ℕ → Frame → ℕ → Outcome DirectoryHead
directory_head s frame item = do
  d ← directory_at s frame item
  answer d.head

unfoldable pub list_of : Directory → ℕ → List DirectoryEntry
list_of d list =
    cond (eqb list 0) d.fields
    (cond (eqb list 1) d.methods
    (cond (eqb list 2) d.parameters []))

unfoldable pub directory_entry : List ℕ → Frame → ℕ → ℕ → ℕ → Outcome DirectoryEntry
directory_entry s frame item list k = do
  d ← directory_at s frame item
  pick k (list_of d list)

-- stages of the code: how many entries a list has, how many stand before it, and what its indices are tested by
unfoldable pub count_of : DirectoryHead → ℕ → ℕ
count_of h list =
    cond (eqb list 0) h.fields
    (cond (eqb list 1) h.methods
    (cond (eqb list 2) h.parameters 0))

unfoldable pub before_of : DirectoryHead → ℕ → ℕ
before_of h list =
    cond (eqb list 0) 0
    (cond (eqb list 1) h.fields
    (h.fields + h.methods))

unfoldable pub limit_of : Frame → ℕ → ℕ
limit_of frame list = cond (eqb list 0) frame.fields frame.methods
