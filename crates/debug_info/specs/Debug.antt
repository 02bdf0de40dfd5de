-- Debug information as a reading. `s` ends where the data section ends, `item` is the place of the debug information.
use Rattle.std.specs.Prelude.{ℕ, ◌+◌, ◌-◌, Bool, true, cond, List, length, get_or, ltb}
use Rattle.std.proofs.Math.Option.{Option, none, some}
use Rattle.refusal.specs.Refusals.{not_there, runs_past, wrong_index}
use Rattle.refusal.specs.Outcome.{Outcome, answer, ◌>>=◌, given}
use Rattle.refusal.specs.Rows.{Found, past, Next, more, ends, collect, until}
use Rattle.refusal.specs.Choose.{choose}
use Rattle.leb128.specs.Leb.{uleb_at, plus_one_at}

-- none, or the number of a string that is there
unfoldable pub named : ℕ → Option ℕ → Bool
named strings none = true
named strings (some v) = ltb v strings

-- a parameter's name: "A plus-one number is none when 0"; "an index in the file is out of range" is 11
unfoldable pub name_at : List ℕ → ℕ → ℕ → ℕ → Outcome (Found (Option ℕ) ℕ)
name_at s strings item p = do
  n ← plus_one_at s item p
  given (named strings n.item) (wrong_index item) (answer n)

-- one byte of a line program, or the zero byte that ends it
unfoldable pub opcode_at : List ℕ → ℕ → ℕ → Outcome (Next ℕ ℕ)
opcode_at s item p = given (ltb p (length s)) (runs_past item) (cond (ltb 0 (get_or s p 0)) (answer (more (get_or s p 0) (p + 1))) (answer (ends p)))

-- "a line program that ends at the first zero byte, handed back without it": its bytes, and the place of the zero
unfoldable pub program_at : List ℕ → ℕ → ℕ → Outcome (Found (List ℕ) ℕ)
program_at s item p = until (length s - p) (runs_past item) (opcode_at s item) p

-- what the bytes say: where the line program begins, and its bytes
pub record Debug : Type 0 where
  pub line : ℕ
  pub names : List (Option ℕ)
  pub start : ℕ
  pub program : List ℕ

-- "Debug information is a starting line, parameter names, and a line program"
unfoldable pub debug_at : List ℕ → ℕ → ℕ → Outcome Debug
debug_at s strings item = do
  l ← uleb_at s item item
  n ← uleb_at s item l.next
  ns ← collect n.item (name_at s strings item) n.next
  z ← program_at s item ns.next
  answer (record { line = l.item; names = ns.item; start = ns.next; program = z.item })

-- what is handed out of it: how many names, and where the program lies
pub record Extent : Type 0 where
  pub line : ℕ
  pub names : ℕ
  pub start : ℕ
  pub length : ℕ

unfoldable pub extent_at : List ℕ → ℕ → ℕ → Outcome Extent
extent_at s strings item = do
  d ← debug_at s strings item
  answer (record { line = d.line; names = length d.names; start = d.start; length = length d.program })

-- a name by its number: the item's own rules first, then 7
unfoldable pub name_of : List ℕ → ℕ → ℕ → ℕ → Outcome (Option ℕ)
name_of s strings item k = do
  d ← debug_at s strings item
  given (ltb k (length d.names)) not_there (answer (get_or d.names k none))

-- ---- stages of the code, which keeps one name and the places alone
unfoldable pub kept_names : List ℕ → ℕ → ℕ → ℕ → ℕ → ℕ → Outcome (Found (Option ℕ) ℕ)
kept_names s strings item from count k = choose count (name_at s strings item) none k from

unfoldable pub zero_at : List ℕ → ℕ → ℕ → Outcome ℕ
zero_at s item p = program_at s item p >>= past

pub record Held : Type 0 where
  pub line : ℕ
  pub names : ℕ
  pub name : Option ℕ
  pub start : ℕ
  pub length : ℕ

unfoldable pub body_at : List ℕ → ℕ → ℕ → ℕ → ℕ → ℕ → ℕ → Outcome Held
body_at s strings item line from count k = do
  n ← kept_names s strings item from count k
  z ← zero_at s item n.next
  answer (record { line = line; names = count; name = n.item; start = n.next; length = z - n.next })

unfoldable pub kept_debug_at : List ℕ → ℕ → ℕ → ℕ → Outcome Held
kept_debug_at s strings item k = do
  l ← uleb_at s item item
  n ← uleb_at s item l.next
  body_at s strings item l.item n.next n.item k
