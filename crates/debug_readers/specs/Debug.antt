-- The debug information of a method as readings: where there is none, none.
use Rattle.std.specs.Prelude.{ℕ, List, []}
use Rattle.std.proofs.Math.Option.{Option, none, some}
use Rattle.refusal.specs.Outcome.{Outcome, answer, refused, ◌>>=◌}
use Rattle.header.specs.Header.{up_to_end}
use Rattle.debug_info.specs.Debug as D
use Rattle.class_readers.specs.declared.Spot.{Spot}
use Rattle.class_readers.specs.Spots.{onward, debug_spot}

-- the whole, as the bytes say it
unfoldable pub whole_under : List ℕ → Spot → Outcome (Option D.Debug)
whole_under f spot = do
  d ← D.debug_at (up_to_end f spot.header) spot.header.strings.count spot.place
  answer (some d)

unfoldable pub debug_whole : List ℕ → ℕ → ℕ → ℕ → Outcome (Option D.Debug)
debug_whole f c list k = debug_spot f c list k >>= onward (whole_under f)

-- the starting line, how many names, and where the program lies
unfoldable pub extent_under : List ℕ → Spot → Outcome (Option D.Extent)
extent_under f spot = do
  e ← D.extent_at (up_to_end f spot.header) spot.header.strings.count spot.place
  answer (some e)

unfoldable pub method_debug : List ℕ → ℕ → ℕ → ℕ → Outcome (Option D.Extent)
method_debug f c list k = debug_spot f c list k >>= onward (extent_under f)

-- name p: a string's number, or no name
unfoldable pub name_under : List ℕ → ℕ → Spot → Outcome (Option (Option ℕ))
name_under f p spot = do
  n ← D.name_of (up_to_end f spot.header) spot.header.strings.count spot.place p
  answer (some n)

unfoldable pub parameter_name : List ℕ → ℕ → ℕ → ℕ → ℕ → Outcome (Option (Option ℕ))
parameter_name f c list k p = debug_spot f c list k >>= onward (name_under f p)

-- "a line program that ends at the first zero byte, handed back without it": no bytes where there is none, or it is refused
unfoldable pub program_of : Outcome (Option D.Debug) → List ℕ
program_of (answer none) = []
program_of (answer (some d)) = d.program
program_of (refused r) = []

unfoldable pub line_program : List ℕ → ℕ → ℕ → ℕ → List ℕ
line_program f c list k = program_of (debug_whole f c list k)
