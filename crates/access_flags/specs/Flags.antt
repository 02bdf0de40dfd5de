-- "Access flags come out as bit numbers 0 to 17, rising, bits 6 and 7 omitted for classes, one byte each."
use Rattle.std.specs.Prelude.{ℕ, zero, suc, ◌+◌, ◌%◌, ◌/◌, Bool, cond, not, ◌&&◌, ◌||◌, List, [], ◌∷◌, ◌++◌, length, drop, leb, eqb}
use Rattle.refusal.specs.Refusals.{no_room}
use Rattle.refusal.specs.Outcome.{Outcome, answer, given}

-- is bit i, the lowest of v, handed out
unfoldable pub kept : Bool → ℕ → ℕ → Bool
kept class i v = eqb (v % 2) 1 && not (class && (eqb i 6 || eqb i 7))

-- the bits of v as the numbers from i on, n of them looked at
unfoldable pub bits : ℕ → Bool → ℕ → ℕ → List ℕ
bits zero class i v = []
bits (suc n) class i v = cond (kept class i v) (i ∷ bits n class (i + 1) (v / 2)) (bits n class (i + 1) (v / 2))

-- "bit numbers 0 to 17"
abbrev pub flag_bits : ℕ
flag_bits = 18

unfoldable pub flags : Bool → ℕ → List ℕ
flags class value = bits flag_bits class 0 value

-- numbers over the front of an output
unfoldable pub filled : List ℕ → List ℕ → List ℕ
filled vs out = vs ++ drop (length vs) out

-- "19: a lent output is shorter than the whole answer"
unfoldable pub written : Bool → ℕ → ℕ → Outcome ℕ
written class value room = given (leb (length (flags class value)) room) no_room (answer (length (flags class value)))

-- "Refusals change no lent byte .. Success writes the answer's places and no others."
unfoldable pub content : Bool → ℕ → List ℕ → List ℕ
content class value out = cond (leb (length (flags class value)) (length out)) (filled (flags class value) out) out
