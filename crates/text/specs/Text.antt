-- Texts as readings. `s` ends where the data section ends, `item` is the place of the string data item.
use Rattle.std.specs.Prelude.{ℕ, ◌+◌, ◌-◌, ◌*◌, ◌/◌, ◌%◌, cond, ◌||◌, List, length, get_or, ltb, leb, eqb}
use Rattle.refusal.specs.Refusals.{malformed_text, runs_past}
use Rattle.refusal.specs.Outcome.{Outcome, answer, ◌>>=◌, given}
use Rattle.refusal.specs.Rows.{Found, Next, more, ends, until}
use Rattle.word.specs.Bytes.{stretch}
use Rattle.leb128.specs.Leb.{uleb_at}

-- the bits of 110xxxxx 10yyyyyy, and of 1110xxxx 10yyyyyy 10zzzzzz
abbrev pub unit2 : ℕ → ℕ → ℕ
unit2 a b = a % 32 * 64 + b % 64

abbrev pub unit3 : ℕ → ℕ → ℕ → ℕ
unit3 a b c = a % 16 * 4096 + b % 64 * 64 + c % 64

-- "a form whose first byte asks for bytes past the section's end is 9, before they are judged"; shortest is 0, or too much for one byte
unfoldable pub two_at : List ℕ → ℕ → ℕ → Outcome (Next ℕ ℕ)
two_at s item p =
    given (leb 2 (length s - p)) (runs_past item)
    (given (eqb (get_or s (p + 1) 0 / 64) 2) (malformed_text item)
    (given (leb 0x80 (unit2 (get_or s p 0) (get_or s (p + 1) 0)) || eqb (unit2 (get_or s p 0) (get_or s (p + 1) 0)) 0) (malformed_text item)
    (answer (more (unit2 (get_or s p 0) (get_or s (p + 1) 0)) (p + 2)))))

-- shortest is too much for two bytes
unfoldable pub three_at : List ℕ → ℕ → ℕ → Outcome (Next ℕ ℕ)
three_at s item p =
    given (leb 3 (length s - p)) (runs_past item)
    (given (eqb (get_or s (p + 1) 0 / 64) 2) (malformed_text item)
    (given (eqb (get_or s (p + 2) 0 / 64) 2) (malformed_text item)
    (given (leb 0x800 (unit3 (get_or s p 0) (get_or s (p + 1) 0) (get_or s (p + 2) 0))) (malformed_text item)
    (answer (more (unit3 (get_or s p 0) (get_or s (p + 1) 0) (get_or s (p + 2) 0)) (p + 3))))))

-- two bytes, three, or a byte that begins no form
unfoldable pub wide_at : List ℕ → ℕ → ℕ → Outcome (Next ℕ ℕ)
wide_at s item p =
    cond (eqb (get_or s p 0 / 32) 6) (two_at s item p)
    (given (eqb (get_or s p 0 / 16) 14) (malformed_text item) (three_at s item p))

-- one unit and the place after its form: "A zero byte ends the text"
unfoldable pub form_at : List ℕ → ℕ → ℕ → Outcome (Next ℕ ℕ)
form_at s item p =
    given (ltb p (length s)) (runs_past item)
    (cond (ltb (get_or s p 0) 0x80)
    (cond (ltb 0 (get_or s p 0)) (answer (more (get_or s p 0) (p + 1))) (answer (ends p)))
    (wide_at s item p))

-- all units, and the place of the zero byte. A form takes a byte at least, so as many steps as there are bytes reach the end.
unfoldable pub units_at : List ℕ → ℕ → ℕ → Outcome (Found (List ℕ) ℕ)
units_at s item p = until (length s - p) (runs_past item) (form_at s item) p

-- where the bytes begin, the bytes without the zero, and the 16-bit units that they encode
pub record Text : Type 0 where
  pub start : ℕ
  pub bytes : List ℕ
  pub units : List ℕ

-- "The stored length counts 16-bit units", "the stored length is compared at the zero byte"
unfoldable pub string_at : List ℕ → ℕ → Outcome Text
string_at s item = do
  n ← uleb_at s item item
  u ← units_at s item n.next
  given (eqb (length u.item) n.item) (malformed_text item)
      (answer (record { start = n.next; bytes = stretch s n.next (u.next - n.next); units = u.item }))

-- what is handed out of a text: where its bytes lie, how many there are, and how many units
pub record Extent : Type 0 where
  pub start : ℕ
  pub length : ℕ
  pub units : ℕ

unfoldable pub extent : Text → Outcome Extent
extent t = answer (record { start = t.start; length = length t.bytes; units = length t.units })

unfoldable pub extent_at : List ℕ → ℕ → Outcome Extent
extent_at s item = string_at s item >>= extent

-- a stage of the code: what it keeps of the units
abbrev pub counted : Found (List ℕ) ℕ → Outcome (Found ℕ ℕ)
counted u = answer (record { item = length u.item; next = u.next })

unfoldable pub count_at : List ℕ → ℕ → ℕ → Outcome (Found ℕ ℕ)
count_at s item p = units_at s item p >>= counted
