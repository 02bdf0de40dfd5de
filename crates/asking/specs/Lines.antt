-- What is written of an answer: a line of numbers.
use Rattle.std.specs.Prelude.{ℕ, ◌+◌, ◌*◌, ◌/◌, ◌%◌, ◌≤◌, ◌≡◌, cond, List, [], ◌∷◌, ◌++◌, length, take, eqb}
use Rattle.report.specs.Decimal.{decimal}
use Rattle.report.specs.Stored.{Stored}

-- each in decimal digits, with a space behind it
unfoldable pub line : List ℕ → List ℕ
line [] = []
line (n ∷ ns) = (decimal n ++ (32 ∷ [])) ++ line ns

-- a word, where the lowest bit is set
unfoldable pub marked : ℕ → ℕ → List ℕ
marked bits word = cond (eqb (bits % 2) 1) (word ∷ []) []

-- vectors/questions.py: "which words of the answer are written (3 bytes, bit k for word k)"
unfoldable pub chosen : ℕ → List ℕ → List ℕ
chosen bits [] = []
chosen bits (word ∷ row) = marked bits word ++ chosen (bits / 2) row

-- the digits of a number stand at the front of a room
pub record Spelt (n : ℕ) (room : List ℕ) (count : ℕ) : Type 0 where
  pub own : take count room ≡ decimal n
  pub within : count ≤ length room

-- numbers were laid out from a place on, each in at most 21 bytes
pub record Laid (ns : List ℕ) (at : ℕ) (before after : List ℕ) (next : ℕ) : Type 0 where
  pub stored : Stored (line ns) at before after next
  pub few : next ≤ at + 21 * length ns
