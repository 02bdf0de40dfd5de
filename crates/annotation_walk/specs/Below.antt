-- What lies below sets, reference lists and directories: "Own rules come first, then the items pointed at, in stored order, each with all below it."
use Rattle.std.specs.Prelude.{ℕ, ◌+◌, ◌*◌, Bool, cond, List, length}
use Rattle.std.proofs.Math.Option.{Option}
use Rattle.refusal.specs.Outcome.{Outcome, answer, ◌>>=◌, present, accepted}
use Rattle.word.specs.Words.{u32_at}
use Rattle.frame.specs.declared.Frame.{Frame}
use Rattle.annotation_directories.specs.declared.DirectoryHead.{DirectoryHead}
use Rattle.annotation_lists.specs.Fixed.{entries_from}
use Rattle.annotation_lists.specs.Offsets.{set_at, references_at}
use Rattle.annotation_directories.specs.Directories.{directory_at}
use Rattle.annotation_items.specs.Items.{AnnotationItem, item_at}

-- an entry: its index, its offset, and what lies below it
pub record Under (B : Type 0) : Type 0 where
  pub index : ℕ
  pub offset : ℕ
  pub below : B

-- what a directory says with all below it: the class's annotations and where their set is (0 for none), each field's and method's, and each parameter's of a method
pub record Annotated : Type 0 where
  pub set : ℕ
  pub own : Option (List AnnotationItem)
  pub fields : List (Under (List AnnotationItem))
  pub methods : List (Under (List AnnotationItem))
  pub parameters : List (Under (List (Option (List AnnotationItem))))

module _ (s : List ℕ) (frame : Frame) where
  -- the item whose offset stands at a place
  unfoldable pub item_from : ℕ → Outcome AnnotationItem
  item_from p = item_at s frame (u32_at frame.order s p)

  -- a set: its own rules, then its items in order
  unfoldable pub set_below : ℕ → Outcome (List AnnotationItem)
  set_below item = do
    l ← set_at s frame item
    entries_from item_from 4 (item + 4) (length l)

  -- the set whose offset stands at a place, none where it is absent
  unfoldable pub set_from : ℕ → Outcome (Option (List AnnotationItem))
  set_from p = present (u32_at frame.order s p) (set_below (u32_at frame.order s p))

  -- a reference list: its own rules, then its sets in order
  unfoldable pub references_below : ℕ → Outcome (List (Option (List AnnotationItem)))
  references_below item = do
    l ← references_at s frame item
    entries_from set_from 4 (item + 4) (length l)

  -- what lies below the entry at a place
  module _ {B : Type 0} (below : ℕ → Outcome B) where
    unfoldable pub entry_from : ℕ → Outcome (Under B)
    entry_from p = do
      b ← below (u32_at frame.order s (p + 4))
      answer (record { index = u32_at frame.order s p; offset = u32_at frame.order s (p + 4); below = b })

  -- a directory: its own rules, then class, fields, methods, parameters
  unfoldable pub head_below : ℕ → DirectoryHead → Outcome Annotated
  head_below item h = do
    own ← present h.set (set_below h.set)
    fields ← entries_from (entry_from set_below) 8 (item + 16) h.fields
    methods ← entries_from (entry_from set_below) 8 (item + 16 + 8 * h.fields) h.methods
    parameters ← entries_from (entry_from references_below) 8 (item + 16 + 8 * h.fields + 8 * h.methods) h.parameters
    answer (record { set = h.set; own = own; fields = fields; methods = methods; parameters = parameters })

  unfoldable pub directory_below : ℕ → Outcome Annotated
  directory_below item = do
    d ← directory_at s frame item
    head_below item d.head

  -- what code keeps: that there is an answer
  abbrev pub set_accepted : ℕ → Outcome Unit
  set_accepted item = set_below item >>= accepted

  abbrev pub references_accepted : ℕ → Outcome Unit
  references_accepted item = references_below item >>= accepted

  abbrev pub directory_accepted : ℕ → Outcome Unit
  directory_accepted item = directory_below item >>= accepted

  -- stages of the code
  abbrev pub items_pass : ℕ → ℕ → Outcome Unit
  items_pass from count = entries_from item_from 4 from count >>= accepted

  abbrev pub own_accepted : ℕ → Outcome Unit
  own_accepted offset = present offset (set_below offset) >>= accepted

  abbrev pub sets_pass : ℕ → ℕ → Outcome Unit
  sets_pass from count = entries_from set_from 4 from count >>= accepted

  -- what an entry leads to: a reference list for a parameter, else a set
  unfoldable pub one_below : Bool → ℕ → Outcome Unit
  one_below parameter offset = cond parameter (references_accepted offset) (set_accepted offset)

  unfoldable pub one_from : Bool → ℕ → Outcome Unit
  one_from parameter p = one_below parameter (u32_at frame.order s (p + 4))

  abbrev pub below_pass : Bool → ℕ → ℕ → Outcome Unit
  below_pass parameter from count = entries_from (one_from parameter) 8 from count >>= accepted

  abbrev pub lists_below : ℕ → DirectoryHead → Outcome Unit
  lists_below item h = head_below item h >>= accepted
