-- Strings by number, and the lookup, as readings.
use Rattle.std.specs.Prelude.{ℕ, List, [], ltb}
use Rattle.std.proofs.Math.Option.{Option}
use Rattle.refusal.specs.Refusals.{not_there}
use Rattle.refusal.specs.Outcome.{Outcome, answer, refused, ◌>>=◌, given}
use Rattle.header.specs.declared.Header.{Header}
use Rattle.header.specs.Header.{header_at}
use Rattle.text.specs.Text.{Text, Extent, extent}
use Rattle.string_ids.specs.Strings.{string_of, string_extent, looked_up}

-- string n: header, 7 for the number, the record, the item
unfoldable pub string_number : List ℕ → ℕ → Outcome Text
string_number f n = do
  header ← header_at f
  given (ltb n header.strings.count) not_there (string_of f header n)

-- "The reader hands back the text's bytes, without the zero, as a part of the file": none where it is refused
unfoldable pub bytes_of : Outcome Text → List ℕ
bytes_of (answer t) = t.bytes
bytes_of (refused r) = []

unfoldable pub find_string : List ℕ → List ℕ → Outcome (Option ℕ)
find_string f text = do
  header ← header_at f
  looked_up f header text

-- where the text lies: what the code hands out
unfoldable pub string_extent_of : List ℕ → ℕ → Outcome Extent
string_extent_of f n = string_number f n >>= extent

unfoldable pub string_in : List ℕ → ℕ → Header → Outcome Extent
string_in f n header = given (ltb n header.strings.count) not_there (string_extent f header n)
