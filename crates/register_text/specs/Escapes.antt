-- docs/REGISTER.md, "Texts": a text is written as its own bytes, but for those that are written by their number.
use Rattle.std.specs.Prelude.{ℕ, suc, ◌+◌, ◌-◌, ◌/◌, ◌%◌, ◌≡◌, Bool, true, false, cond, List, [], ◌∷◌, ◌++◌, length, take, drop, ltb, leb, eqb}
use Rattle.report.specs.Stored.{Stored}

-- "In a NAME of a key . [ ] and @"
unfoldable pub in_key : ℕ → Bool
in_key b = cond (eqb b 46) true (cond (eqb b 91) true (cond (eqb b 93) true (eqb b 64)))

-- "The bytes 00 to 1f, 7f and 5c"; in a name of a key those above as well
unfoldable pub special : Bool → ℕ → Bool
special key b = cond (ltb b 32) true (cond (eqb b 127) true (cond (eqb b 92) true (cond key (in_key b) false)))

-- a hexadecimal digit, small letters
unfoldable pub hex : ℕ → ℕ
hex d = cond (ltb d 10) (48 + d) (87 + d)

-- "are written \xNN"
unfoldable pub form : Bool → ℕ → List ℕ
form key b = cond (special key b) (92 ∷ 120 ∷ hex (b / 16) ∷ hex (b % 16) ∷ []) (b ∷ [])

-- a whole text
unfoldable pub escaped : Bool → List ℕ → List ℕ
escaped key [] = []
escaped key (b ∷ bs) = form key b ++ escaped key bs

-- how many bytes of a text can be written whole in so much room
unfoldable pub fitting : Bool → List ℕ → ℕ → ℕ
fitting key [] room = 0
fitting key (b ∷ bs) room = cond (leb (length (form key b)) room) (suc (fitting key bs (room - length (form key b)))) 0

-- the writing of as much of a text, from a place on, as an output has room for
unfoldable pub piece_of : Bool → List ℕ → ℕ → ℕ → List ℕ
piece_of key text from room = escaped key (take (fitting key (drop from text) room) (drop from text))

-- such a piece was stored at the front of an output, this is the place of the text's next byte, and so many bytes are used
pub record Pieced (key : Bool) (text : List ℕ) (from : ℕ) (before after : List ℕ) (next used : ℕ) : Type 0 where
  pub goes_on : next ≡ from + fitting key (drop from text) (length before)
  pub stored : Stored (piece_of key text from (length before)) 0 before after used
