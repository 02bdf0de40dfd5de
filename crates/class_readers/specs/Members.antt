-- Class data and its members by number as readings.
use Rattle.std.specs.Prelude.{ℕ, false, List}
use Rattle.std.proofs.Math.Option.{Option, none, some}
use Rattle.refusal.specs.Outcome.{Outcome, answer, refused, ◌>>=◌}
use Rattle.header.specs.Header.{up_to_end, plain_frame}
use Rattle.access_flags.specs.Flags.{written, content}
use Rattle.class_data.specs.declared.Counts.{Counts}
use Rattle.class_members.specs.declared.Member.{Member}
use Rattle.class_data.specs.Data.{extent_at, member_of_list}
use Rattle.class_readers.specs.declared.Spot.{Spot}
use Rattle.class_readers.specs.Spots.{onward, data_spot}

-- the four counts of class data, or none
unfoldable pub counts_under : List ℕ → Spot → Outcome (Option Counts)
counts_under f spot = do
  d ← extent_at (up_to_end f spot.header) (plain_frame spot.header) spot.place
  answer (some d.item)

unfoldable pub class_data : List ℕ → ℕ → Outcome (Option Counts)
class_data f c = data_spot f c >>= onward (counts_under f)

-- member k of a list: of a class without class data none, and not 7
unfoldable pub member_under : List ℕ → ℕ → ℕ → Spot → Outcome (Option Member)
member_under f list k spot = do
  m ← member_of_list (up_to_end f spot.header) (plain_frame spot.header) spot.place list k
  answer (some m)

unfoldable pub member_number : List ℕ → ℕ → ℕ → ℕ → Outcome (Option Member)
member_number f c list k = data_spot f c >>= onward (member_under f list k)

-- its access flags: "then 19"
unfoldable pub flags_in : ℕ → Member → Outcome (Option ℕ)
flags_in room m = do
  n ← written false m.flags room
  answer (some n)

unfoldable pub member_flags : List ℕ → ℕ → ℕ → ℕ → ℕ → Outcome (Option ℕ)
member_flags f c list k room = member_number f c list k >>= onward (flags_in room)

-- what the output holds afterwards: as it was where there is none, or the answer is a refusal
unfoldable pub content_of : Outcome (Option Member) → List ℕ → List ℕ
content_of (answer none) out = out
content_of (answer (some m)) out = content false m.flags out
content_of (refused r) out = out

unfoldable pub member_content : List ℕ → ℕ → ℕ → ℕ → List ℕ → List ℕ
member_content f c list k out = content_of (member_number f c list k) out
