-- The annotation directory as rules: what stands where, with no walk.
use Rattle.std.specs.Prelude.{ℕ, ◌+◌, ◌*◌, ◌<◌, ◌≤◌, ◌≡◌, true, List, length}
use Rattle.word.specs.Words.{u32_at}
use Rattle.frame.specs.declared.Frame.{Frame}
use Rattle.frame.specs.Offsets.{Allowed, AllowedOrAbsent}
use Rattle.annotation_directories.specs.declared.DirectoryHead.{DirectoryHead}
use Rattle.annotation_lists.specs.Fixed.{Fixed}
use Rattle.annotation_directories.specs.Directories.{DirectoryEntry, Directory}

pub record DirectoryHeadRule (s : List ℕ) (frame : Frame) (item : ℕ) (h : DirectoryHead) : Type 0 where
  pub room : item + 16 ≤ length s
  pub set : u32_at frame.order s item ≡ h.set
  pub allows : AllowedOrAbsent frame.start (length s) true h.set
  pub fields : u32_at frame.order s (item + 4) ≡ h.fields
  pub methods : u32_at frame.order s (item + 8) ≡ h.methods
  pub parameters : u32_at frame.order s (item + 12) ≡ h.parameters

pub record DirectoryEntryRule (s : List ℕ) (frame : Frame) (item : ℕ) (limit p : ℕ) (e : DirectoryEntry) : Type 0 where
  pub index : u32_at frame.order s p ≡ e.index
  pub offset : u32_at frame.order s (p + 4) ≡ e.offset
  pub below : e.index < limit
  pub allows : Allowed frame.start (length s) true e.offset

pub record DirectoryRule (s : List ℕ) (frame : Frame) (item : ℕ) (d : Directory) : Type 0 where
  pub head : DirectoryHeadRule s frame item d.head
  pub fields : Fixed s (DirectoryEntryRule s frame item frame.fields) 8 (item + 16) d.head.fields d.fields
  pub methods : Fixed s (DirectoryEntryRule s frame item frame.methods) 8 (item + 16 + 8 * d.head.fields) d.head.methods d.methods
  pub parameters : Fixed s (DirectoryEntryRule s frame item frame.methods) 8 (item + 16 + 8 * d.head.fields + 8 * d.head.methods) d.head.parameters d.parameters
