-- What is handed out of a code item.
use Rattle.std.specs.Prelude.{ℕ, List, length, get_or, ltb}
use Rattle.std.proofs.Math.Option.{Option}
use Rattle.refusal.specs.Refusals.{not_there}
use Rattle.refusal.specs.Seek.{position}
use Rattle.refusal.specs.Outcome.{Outcome, answer, ◌>>=◌, given}
use Rattle.frame.specs.declared.Frame.{Frame}
use Rattle.handlers.specs.declared.Pair.{Pair}
use Rattle.handlers.specs.declared.Brief.{Brief}
use Rattle.handlers.specs.Handlers as H
use Rattle.code_bodies.specs.declared.Try.{Try}
use Rattle.code_bodies.specs.Tries.{no_try}
use Rattle.code_bodies.specs.Code.{Code, code_at}
use Rattle.code_item.specs.declared.Outline.{Outline}
use Rattle.code_item.specs.Covering.{covers}

-- its head, how many handlers, and its places
abbrev pub outline : Code → Outline
outline c = record { head = c.head; handlers = length c.handlers.handlers; from = c.from; base = c.base; end = c.handlers.end }

unfoldable pub outline_at : List ℕ → Frame → ℕ → Outcome Outline
outline_at s frame item = do
  c ← code_at s frame item
  answer (outline c)

-- a try and its handler's number
pub record Linked : Type 0 where
  pub attempt : Try
  pub number : ℕ

-- "Asking which try covers an address answers "none" exactly when no try does."
unfoldable pub covering_of : List ℕ → Frame → ℕ → ℕ → Outcome (Option ℕ)
covering_of s frame item address = do
  c ← code_at s frame item
  answer (position (covers address) c.tries)

-- by number: the item's own rules first, then 7
unfoldable pub try_of : List ℕ → Frame → ℕ → ℕ → Outcome Linked
try_of s frame item t = do
  c ← code_at s frame item
  given (ltb t c.head.tries) not_there (answer (record { attempt = get_or c.tries t no_try; number = get_or c.links t 0 }))

-- a handler's offset, how many pairs, and its catch-all
pub record Handed : Type 0 where
  pub offset : ℕ
  pub pairs : ℕ
  pub all : Option ℕ

abbrev pub handed : H.Handler → Handed
handed h = record { offset = h.offset; pairs = length h.pairs; all = h.all }

unfoldable pub handler_of : List ℕ → Frame → ℕ → ℕ → Outcome Handed
handler_of s frame item h = do
  c ← code_at s frame item
  given (ltb h (length c.handlers.handlers)) not_there (answer (handed (get_or c.handlers.handlers h H.nobody)))

unfoldable pub pair_of : List ℕ → Frame → ℕ → ℕ → ℕ → Outcome Pair
pair_of s frame item h k = do
  c ← code_at s frame item
  given (ltb h (length c.handlers.handlers)) not_there
      (given (ltb k (length (get_or c.handlers.handlers h H.nobody).pairs)) not_there
      (answer (get_or (get_or c.handlers.handlers h H.nobody).pairs k H.nothing)))

-- ---- from what the code keeps of a handler
unfoldable pub pair_in : Brief → ℕ → Outcome Pair
pair_in b k = given (ltb k b.pairs) not_there (answer b.pair)
