-- The head of a code item as a rule.
use Rattle.std.specs.Prelude.{ℕ, ◌+◌, ◌≤◌, ◌≡◌, false, List, length}
use Rattle.word.specs.Words.{u16_at, u32_at}
use Rattle.word.specs.declared.Endian.{Endian}
use Rattle.frame.specs.declared.Frame.{Frame}
use Rattle.frame.specs.Offsets.{AllowedOrAbsent}
use Rattle.code_heads.specs.declared.CodeHead.{CodeHead}

-- six fields, and a debug offset that is 0 or lies in the data section
abbrev pub read_head : Endian → List ℕ → ℕ → CodeHead
read_head o s p = record {
  registers = u16_at o s p;
  ins = u16_at o s (p + 2);
  outs = u16_at o s (p + 4);
  tries = u16_at o s (p + 6);
  debug = u32_at o s (p + 8);
  units = u32_at o s (p + 12);
}

pub record CodeHeadRule (s : List ℕ) (frame : Frame) (item : ℕ) (h : CodeHead) : Type 0 where
  pub room : item + 16 ≤ length s
  pub debug : AllowedOrAbsent frame.start (length s) false (u32_at frame.order s (item + 8))
  pub fields : read_head frame.order s item ≡ h
