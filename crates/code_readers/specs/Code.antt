-- The code of a method as readings: where there is no code, none.
use Rattle.std.specs.Prelude.{ℕ, ◌+◌, cond, List, length, leb}
use Rattle.std.proofs.Math.Option.{Option, none, some}
use Rattle.refusal.specs.Refusals.{no_room}
use Rattle.refusal.specs.Outcome.{Outcome, answer, refused, ◌>>=◌, given}
use Rattle.header.specs.Header.{up_to_end, plain_frame}
use Rattle.handlers.specs.declared.Pair.{Pair}
use Rattle.code_units.specs.Units.{filled, into_at, left_at}
use Rattle.code_item.specs.declared.Outline.{Outline}
use Rattle.code_bodies.specs.Code.{Code, code_at}
use Rattle.code_item.specs.Code as C
use Rattle.class_readers.specs.declared.Spot.{Spot}
use Rattle.class_readers.specs.Spots.{onward, method_spot}

-- what the bytes say
unfoldable pub code_in : List ℕ → Spot → Outcome Code
code_in f spot = code_at (up_to_end f spot.header) (plain_frame spot.header) spot.place

-- its sizes, counts and places
unfoldable pub outline_under : List ℕ → Spot → Outcome (Option Outline)
outline_under f spot = do
  o ← C.outline_at (up_to_end f spot.header) (plain_frame spot.header) spot.place
  answer (some o)

unfoldable pub method_code : List ℕ → ℕ → ℕ → ℕ → Outcome (Option Outline)
method_code f c list k = method_spot f c list k >>= onward (outline_under f)

-- try t, with the number of its handler
unfoldable pub try_under : List ℕ → ℕ → Spot → Outcome (Option C.Linked)
try_under f t spot = do
  l ← C.try_of (up_to_end f spot.header) (plain_frame spot.header) spot.place t
  answer (some l)

unfoldable pub try_number : List ℕ → ℕ → ℕ → ℕ → ℕ → Outcome (Option C.Linked)
try_number f c list k t = method_spot f c list k >>= onward (try_under f t)

-- "Asking which try covers an address answers "none" exactly when no try does.": without code no try does
unfoldable pub cover_under : List ℕ → ℕ → Spot → Outcome (Option ℕ)
cover_under f address spot = C.covering_of (up_to_end f spot.header) (plain_frame spot.header) spot.place address

unfoldable pub covering_try : List ℕ → ℕ → ℕ → ℕ → ℕ → Outcome (Option ℕ)
covering_try f c list k address = method_spot f c list k >>= onward (cover_under f address)

-- handlers: how many, by number, and a pair of one
unfoldable pub handlers_in : Outline → Outcome (Option ℕ)
handlers_in o = answer (some o.handlers)

unfoldable pub handler_count : List ℕ → ℕ → ℕ → ℕ → Outcome (Option ℕ)
handler_count f c list k = method_code f c list k >>= onward handlers_in

unfoldable pub handler_under : List ℕ → ℕ → Spot → Outcome (Option C.Handed)
handler_under f h spot = do
  x ← C.handler_of (up_to_end f spot.header) (plain_frame spot.header) spot.place h
  answer (some x)

unfoldable pub handler_number : List ℕ → ℕ → ℕ → ℕ → ℕ → Outcome (Option C.Handed)
handler_number f c list k h = method_spot f c list k >>= onward (handler_under f h)

unfoldable pub pair_under : List ℕ → ℕ → ℕ → Spot → Outcome (Option Pair)
pair_under f h p spot = do
  x ← C.pair_of (up_to_end f spot.header) (plain_frame spot.header) spot.place h p
  answer (some x)

unfoldable pub handler_pair : List ℕ → ℕ → ℕ → ℕ → ℕ → ℕ → Outcome (Option Pair)
handler_pair f c list k h p = method_spot f c list k >>= onward (pair_under f h p)

-- "Instructions are handed out as 16-bit units into a lent output", and 19 last
unfoldable pub units_under : List ℕ → ℕ → Spot → Outcome (Option ℕ)
units_under f room spot = do
  c ← code_in f spot
  given (leb (length c.units) room) no_room (answer (some (length c.units)))

unfoldable pub method_units : List ℕ → ℕ → ℕ → ℕ → ℕ → Outcome (Option ℕ)
method_units f c list k room = method_spot f c list k >>= onward (units_under f room)

-- the output afterwards: "Refusals change no lent byte or unit. Success writes the answer's places and no others."
unfoldable pub units_over : Outcome Code → List ℕ → List ℕ
units_over (answer c) out = cond (leb (length c.units) (length out)) (filled c.units out) out
units_over (refused r) out = out

unfoldable pub units_in : List ℕ → Outcome (Option Spot) → List ℕ → List ℕ
units_in f (answer none) out = out
units_in f (answer (some spot)) out = units_over (code_in f spot) out
units_in f (refused r) out = out

unfoldable pub units_content : List ℕ → ℕ → ℕ → ℕ → List ℕ → List ℕ
units_content f c list k out = units_in f (method_spot f c list k) out

-- ---- a stage of the code: so many units from where they begin
unfoldable pub units_into : List ℕ → Spot → ℕ → ℕ → Outcome (Option ℕ)
units_into f spot count room = do
  n ← into_at (length (up_to_end f spot.header)) (spot.place + 16) count room
  answer (some n)

unfoldable pub units_written : List ℕ → Spot → ℕ → List ℕ → List ℕ
units_written f spot count out = left_at spot.header.order (up_to_end f spot.header) (spot.place + 16) count out
