-- The string table as readings.
use Rattle.std.specs.Prelude.{ℕ, ◌+◌, ◌*◌, Bool, false, List}
use Rattle.std.proofs.Math.Option.{Option}
use Rattle.refusal.specs.Refusals.{out_of_order, wrong_offset}
use Rattle.refusal.specs.Outcome.{Outcome, answer, ◌>>=◌, given, accepted}
use Rattle.refusal.specs.Rows.{in_turn}
use Rattle.refusal.specs.Seek.{position}
use Rattle.word.specs.Words.{u32_at}
use Rattle.header.specs.declared.Header.{Header}
use Rattle.header.specs.Header.{up_to_end}
use Rattle.frame.specs.Offsets.{allowed}
use Rattle.text.specs.Text.{Text, string_at, Extent, extent}
use Rattle.text_order.specs.Order.{compared, by_key, is_less, is_equal}

-- where the record of string n is
abbrev pub string_place : Header → ℕ → ℕ
string_place header n = header.strings.offset + 4 * n

-- the record: where the item is, 8 at the record
unfoldable pub record_of : Header → ℕ → ℕ → Outcome ℕ
record_of header n offset = given (allowed header.start header.end false offset) (wrong_offset (string_place header n)) (answer offset)

unfoldable pub record_at : List ℕ → Header → ℕ → Outcome ℕ
record_at f header n = record_of header n (u32_at header.order f (string_place header n))

-- string n: its record, then its item
unfoldable pub string_of : List ℕ → Header → ℕ → Outcome Text
string_of f header n = record_at f header n >>= string_at (up_to_end f header)

unfoldable pub string_extent : List ℕ → Header → ℕ → Outcome Extent
string_extent f header n = string_of f header n >>= extent

-- "Strings rise strictly by 16-bit units"
abbrev pub before : Text → Text → Bool
before a b = is_less (compared a.units b.units)

-- all strings, each by its own rules, then by its order: "15, at the record"
unfoldable pub strings_at : List ℕ → Header → Outcome (List Text)
strings_at f header = in_turn (string_of f header) before (λ (n : ℕ). out_of_order (string_place header n)) header.strings.count

-- a stage of the code: nothing of them is kept but that they obey their rules and rise
abbrev pub strings_checked : List ℕ → Header → Outcome Unit
strings_checked f header = strings_at f header >>= accepted

-- the same by the bytes of two texts: a stage of the code
abbrev pub less_bytes : List ℕ → List ℕ → Bool
less_bytes a b = is_less (by_key a b)

-- has a string those bytes
abbrev pub is : List ℕ → Text → Bool
is text t = is_equal (by_key t.bytes text)

-- "Looking up a text answers its number, or none .. The lookup applies each string's rules in index order first, the order rule included."
unfoldable pub looked_up : List ℕ → Header → List ℕ → Outcome (Option ℕ)
looked_up f header text = do
  l ← strings_at f header
  answer (position (is text) l)
