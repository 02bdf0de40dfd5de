-- What a lent output holds afterwards.
use Rattle.std.specs.Prelude.{ℕ, ◌+◌, ◌≤◌, ◌≡◌, cond, List, ◌++◌, length, take, drop, leb}
use Rattle.refusal.specs.Refusals.{no_room}
use Rattle.refusal.specs.Outcome.{Outcome, answer, given}

-- these bytes from a place on, the others as they were
unfoldable pub placed : List ℕ → ℕ → List ℕ → List ℕ
placed text at out = take at out ++ (text ++ drop (at + length text) out)

-- a text was stored from a place on, and this is the place after it
pub record Stored (text : List ℕ) (at : ℕ) (before after : List ℕ) (next : ℕ) : Type 0 where
  pub room : at + length text ≤ length before
  pub content : after ≡ placed text at before
  pub ends : next ≡ at + length text

-- "19: a lent output is shorter than the whole answer"
unfoldable pub written : List ℕ → ℕ → Outcome ℕ
written text room = given (leb (length text) room) no_room (answer (length text))

-- "Refusals change no lent byte or unit. Success writes the answer's places and no others."
unfoldable pub content : List ℕ → List ℕ → List ℕ
content text out = cond (leb (length text) (length out)) (text ++ drop (length text) out) out
