-- What lies below sets, reference lists and directories as rules: each item obeys its own rules and those of all that it leads to.
use Rattle.std.specs.Prelude.{ℕ, ◌+◌, ◌*◌, ◌≡◌, List, length}
use Rattle.std.proofs.Math.Option.{Option}
use Rattle.refusal.specs.Exact.{Present, Each}
use Rattle.word.specs.Words.{u32_at}
use Rattle.frame.specs.declared.Frame.{Frame}
use Rattle.annotation_directories.specs.Directories.{Directory}
use Rattle.annotation_items.specs.Items.{AnnotationItem}
use Rattle.annotation_lists.specs.Rules.{SetRule, ReferencesRule}
use Rattle.annotation_directories.specs.Rules.{DirectoryRule}
use Rattle.annotation_items.specs.Rules.{AnnotationItemRule}
use Rattle.annotation_walk.specs.Below.{Under, Annotated}

module _ (s : List ℕ) (frame : Frame) where
  -- item k of a set is the one that offset k leads to
  pub record SetBelow (item : ℕ) (l : List AnnotationItem) : Type 0 where
    pub offsets : List ℕ
    pub rule : SetRule s frame item offsets
    pub items : Each (λ (k : ℕ) (a : AnnotationItem). AnnotationItemRule s frame (u32_at frame.order s (item + 4 + 4 * k)) a) (length offsets) l

  -- set k of a reference list, none exactly where offset k is 0
  pub record ReferencesBelow (item : ℕ) (l : List (Option (List AnnotationItem))) : Type 0 where
    pub offsets : List ℕ
    pub rule : ReferencesRule s frame item offsets
    pub sets : Each (λ (k : ℕ) (a : Option (List AnnotationItem)). Present (SetBelow (u32_at frame.order s (item + 4 + 4 * k))) (u32_at frame.order s (item + 4 + 4 * k)) a) (length offsets) l

  -- the entry at a place: its index, its offset, and what the offset leads to
  pub record EntryBelow {B : Type 0} (Below : ℕ → B → Type 0) (p : ℕ) (u : Under B) : Type 0 where
    pub index : u32_at frame.order s p ≡ u.index
    pub offset : u32_at frame.order s (p + 4) ≡ u.offset
    pub below : Below (u32_at frame.order s (p + 4)) u.below

  pub record DirectoryBelow (item : ℕ) (a : Annotated) : Type 0 where
    pub directory : Directory
    pub rule : DirectoryRule s frame item directory
    pub set : directory.head.set ≡ a.set
    pub own : Present (SetBelow directory.head.set) directory.head.set a.own
    pub fields : Each (λ (k : ℕ) (u : Under (List AnnotationItem)). EntryBelow SetBelow (item + 16 + 8 * k) u) directory.head.fields a.fields
    pub methods : Each (λ (k : ℕ) (u : Under (List AnnotationItem)). EntryBelow SetBelow (item + 16 + 8 * directory.head.fields + 8 * k) u) directory.head.methods a.methods
    pub parameters : Each (λ (k : ℕ) (u : Under (List (Option (List AnnotationItem)))). EntryBelow ReferencesBelow (item + 16 + 8 * directory.head.fields + 8 * directory.head.methods + 8 * k) u) directory.head.parameters a.parameters
