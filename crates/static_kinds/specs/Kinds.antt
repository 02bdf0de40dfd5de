-- Document 02, ticket 1: what a static field's type text says of its value. "the zero, false or null that the field's type text calls for (null for any text but Z,
-- B, S, C, I, J, F and D)"; "those eight texts take 1f, 00, 02, 03, 04, 06, 10 and 11 in that order, any other text one of 15 to 1e".
use Rattle.std.specs.Prelude.{ℕ, Bool, true, false, cond, ◌&&◌, List, [], ◌∷◌, leb, eqb, pos}
use Rattle.std.specs.Float.Ieee.{of_bits}
use Rattle.std.specs.Float.{binary32, binary64}
use Rattle.decoded_value.specs.Shown.{Content, integer, natural, floating, nothing, truth, Shown}

-- a text, the kind that it takes, and its zero, false or null
pub record TextKind : Type 0 where
  pub text : List ℕ
  pub kind : ℕ
  pub unset : Content

abbrev pub takes_kind : List ℕ → ℕ → Content → TextKind
takes_kind text kind unset = record { text = text; kind = kind; unset = unset }

-- the eight texts, each of one letter
unfoldable pub eight : List TextKind
eight =
    -- Z boolean, B byte, S short, C char
    takes_kind (0x5a ∷ []) 0x1f (truth false)
    ∷ takes_kind (0x42 ∷ []) 0x00 (integer (pos 0))
    ∷ takes_kind (0x53 ∷ []) 0x02 (integer (pos 0))
    ∷ takes_kind (0x43 ∷ []) 0x03 (natural 0)
    -- I int, J long, F float, D double
    ∷ takes_kind (0x49 ∷ []) 0x04 (integer (pos 0))
    ∷ takes_kind (0x4a ∷ []) 0x06 (integer (pos 0))
    ∷ takes_kind (0x46 ∷ []) 0x10 (floating 0 (of_bits binary32 0))
    ∷ takes_kind (0x44 ∷ []) 0x11 (floating 0 (of_bits binary64 0))
    ∷ []

-- any other text: null
abbrev pub other_text : TextKind
other_text = takes_kind [] 0x1e nothing

-- the kind of null, which no text of the eight takes
abbrev pub null_kind : ℕ
null_kind = 0x1e

-- are these the same bytes, from the first to the last
unfoldable pub same_bytes : List ℕ → List ℕ → Bool
same_bytes [] [] = true
same_bytes [] (b ∷ y) = false
same_bytes (a ∷ x) [] = false
same_bytes (a ∷ x) (b ∷ y) = eqb a b && same_bytes x y

-- the row of a text
unfoldable pub row_of : List ℕ → List TextKind → TextKind
row_of text [] = other_text
row_of text (r ∷ l) = cond (same_bytes text r.text) r (row_of text l)

-- "the zero, false or null that the field's type text calls for"
unfoldable pub kind_called : List ℕ → ℕ
kind_called text = (row_of text eight).kind

abbrev pub unset_of : TextKind → Shown
unset_of r = record { kind = r.kind; content = r.unset }

unfoldable pub default : List ℕ → Shown
default text = unset_of (row_of text eight)

-- may a value of this kind stand where that kind is called for: "any other text one of 15 to 1e"
unfoldable pub suits : ℕ → ℕ → Bool
suits called kind = cond (eqb called null_kind) (leb 0x15 kind && leb kind 0x1e) (eqb kind called)

unfoldable pub fits : List ℕ → ℕ → Bool
fits text kind = suits (kind_called text) kind

-- a stage of the code: the zero, false or null of a kind that is called for
unfoldable pub row_by : ℕ → List TextKind → TextKind
row_by kind [] = other_text
row_by kind (r ∷ l) = cond (eqb kind r.kind) r (row_by kind l)

unfoldable pub unset_by : ℕ → Shown
unset_by kind = unset_of (row_by kind eight)
