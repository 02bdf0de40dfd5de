-- Debug information as a rule: which bytes say what, with no walk.
use Rattle.std.specs.Prelude.{ℕ, ◌<◌, ◌≡◌, List, length, get_or}
use Rattle.std.proofs.Math.Option.{Option, none, some}
use Rattle.refusal.specs.Exact.{Row, At}
use Rattle.word.specs.Bytes.{Stands}
use Rattle.leb128.specs.Rules.{Uleb, PlusOneRule}
use Rattle.debug_info.specs.Debug.{Debug}

-- none, or the number of a string
abbrev pub Named : ℕ → Option ℕ → Type 0
Named strings none = Unit
Named strings (some v) = v < strings

-- a name that stands at p and ends at q
pub record NameRule (s : List ℕ) (strings p : ℕ) (name : Option ℕ) (q : ℕ) : Type 0 where
  pub number : PlusOneRule s p (record { item = name; next = q })
  pub below : Named strings name

-- a line program: bytes of which none is 0, and then a zero byte
pub record ProgramRule (s : List ℕ) (p : ℕ) (bytes : List ℕ) (zero : ℕ) : Type 0 where
  pub stands : Stands s p bytes zero
  pub nonzero : {k b : ℕ} → At bytes k b → 0 < b
  pub room : zero < length s
  pub closed : get_or s zero 0 ≡ 0

pub record DebugRule (s : List ℕ) (strings item : ℕ) (d : Debug) : Type 0 where
  pub count : ℕ
  pub after_line : ℕ
  pub after_count : ℕ
  pub zero : ℕ
  pub line : Uleb s item (record { item = d.line; next = after_line })
  pub size : Uleb s after_line (record { item = count; next = after_count })
  pub names : Row (NameRule s strings) count after_count d.names d.start
  pub program : ProgramRule s d.start d.program zero
