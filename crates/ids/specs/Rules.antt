-- The records as rules: what stands where, with no order of tests.
use Rattle.std.specs.Prelude.{ℕ, ◌+◌, ◌*◌, ◌≤◌, ◌<◌, ◌≡◌, true, List}
use Rattle.refusal.specs.Exact.{Each, Rising}
use Rattle.word.specs.Words.{u16_at, u32_at}
use Rattle.frame.specs.declared.Frame.{Frame}
use Rattle.frame.specs.Offsets.{AllowedOrAbsent}
use Rattle.ids.specs.declared.Proto.{Proto}
use Rattle.ids.specs.declared.MemberId.{MemberId}
use Rattle.ids.specs.declared.Handle.{Handle}

pub record TypeRule (f : List ℕ) (frame : Frame) (offset n string : ℕ) : Type 0 where
  pub stands : u32_at frame.order f (offset + 4 * n) ≡ string
  pub range : string < frame.strings

-- for each n below the count type n, and the types rise by their strings
pub record TypeTableRule (f : List ℕ) (frame : Frame) (offset count : ℕ) (l : List ℕ) : Type 0 where
  pub each : Each (TypeRule f frame offset) count l
  pub order : Rising ◌<◌ l

pub record ProtoRule (f : List ℕ) (frame : Frame) (end offset n : ℕ) (p : Proto) : Type 0 where
  pub shorty : u32_at frame.order f (offset + 12 * n) ≡ p.shorty
  pub returns : u32_at frame.order f (offset + 12 * n + 4) ≡ p.return_type
  pub parameters : u32_at frame.order f (offset + 12 * n + 8) ≡ p.parameters
  pub shorty_range : p.shorty < frame.strings
  pub return_range : p.return_type < frame.types
  pub place : AllowedOrAbsent frame.start end true p.parameters

pub record MemberIdRule (f : List ℕ) (frame : Frame) (kinds offset n : ℕ) (m : MemberId) : Type 0 where
  pub class : u16_at frame.order f (offset + 8 * n) ≡ m.class
  pub kind : u16_at frame.order f (offset + 8 * n + 2) ≡ m.kind
  pub name : u32_at frame.order f (offset + 8 * n + 4) ≡ m.name
  pub class_range : m.class < frame.types
  pub kind_range : m.kind < kinds
  pub name_range : m.name < frame.strings

pub record HandleRule (f : List ℕ) (frame : Frame) (offset n : ℕ) (h : Handle) : Type 0 where
  pub kind : u16_at frame.order f (offset + 8 * n) ≡ h.kind
  pub number : u16_at frame.order f (offset + 8 * n + 4) ≡ h.number
  pub known : h.kind ≤ 8
  pub field : h.kind ≤ 3 → h.number < frame.fields
  pub method : 3 < h.kind → h.number < frame.methods
