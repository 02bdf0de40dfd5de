-- The units of a code item: "Instructions are handed out as 16-bit units into a lent output."
use Rattle.std.specs.Prelude.{ℕ, zero, suc, ◌+◌, ◌*◌, cond, List, [], ◌∷◌, ◌++◌, length, drop, leb}
use Rattle.refusal.specs.Refusals.{no_room, runs_past}
use Rattle.refusal.specs.Outcome.{Outcome, answer, given}
use Rattle.word.specs.Words.{u16_at}
use Rattle.word.specs.declared.Endian.{Endian}

-- the units from p on, in the file's byte order
unfoldable pub units_at : Endian → List ℕ → ℕ → ℕ → List ℕ
units_at o s p zero = []
units_at o s p (suc n) = u16_at o s p ∷ units_at o s (p + 2) n

-- these over the front of out
unfoldable pub filled : List ℕ → List ℕ → List ℕ
filled vs out = vs ++ drop (length vs) out

-- "19: a lent output is shorter than the whole answer"; units that are not there are 9
unfoldable pub into_at : ℕ → ℕ → ℕ → ℕ → Outcome ℕ
into_at len start count room = given (leb (start + 2 * count) len) (runs_past start) (given (leb count room) no_room (answer count))

-- the output afterwards: "Refusals change no lent byte or unit. Success writes the answer's places and no others."
unfoldable pub left_at : Endian → List ℕ → ℕ → ℕ → List ℕ → List ℕ
left_at o s start count out =
    cond (leb (start + 2 * count) (length s)) (cond (leb count (length out)) (filled (units_at o s start count) out) out) out
