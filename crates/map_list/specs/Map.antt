-- The map list as a reading. `s` is the file up to the data section's end.
use Rattle.std.specs.Prelude.{ℕ, ◌+◌, ◌*◌, ◌%◌, Bool, true, cond, ◌&&◌, List, length, get_or, set, replicate, ltb, leb, eqb}
use Rattle.refusal.specs.Refusals.{runs_past, wrong_map, wrong_offset}
use Rattle.refusal.specs.Outcome.{Outcome, answer, ◌>>=◌, given}
use Rattle.refusal.specs.Rows.{Found, collect}
use Rattle.word.specs.Words.{u16_at, u32_at}
use Rattle.word.specs.declared.Endian.{Endian}
use Rattle.header.specs.declared.Header.{Header}
use Rattle.header.specs.declared.Table.{Table}
use Rattle.header.specs.Header.{up_to_end}
use Rattle.frame.specs.Offsets.{allowed}
use Rattle.map_list.specs.declared.MapEntry.{MapEntry}
use Rattle.map_list.specs.declared.MapList.{MapList}
use Rattle.map_list.specs.declared.MapJudge.{MapJudge}
use Rattle.map_list.specs.Codes.{map_code_number}

-- "Entries have a type, a size and an offset."
abbrev pub entry_at : Endian → List ℕ → ℕ → MapEntry
entry_at o s p = record { kind = u16_at o s p; size = u32_at o s (p + 4); offset = u32_at o s (p + 8) }

-- entry k of the map
unfoldable pub entry_number : List ℕ → Header → ℕ → MapEntry
entry_number f header k = entry_at header.order (up_to_end f header) (header.map + 4 + 12 * k)

-- "Type 8 gives the count and place of method handles, 8 bytes each, at 112 or later, a multiple of 4, inside the file."
unfoldable pub handles_allowed : ℕ → ℕ → ℕ → Bool
handles_allowed len size offset = leb 112 offset && (eqb (offset % 4) 0 && leb (offset + 8 * size) len)

-- "Below version 038 types 7 and 8 are refused."
unfoldable pub entry_allowed : ℕ → ℕ → MapEntry → Bool
entry_allowed version len e =
    cond (eqb e.kind 7) (leb 38 version)
    (cond (eqb e.kind 8) (leb 38 version && handles_allowed len e.size e.offset)
    true)

-- "Offsets rise strictly and each type stands at most once." An offset is at least one more than the last, and a type is not seen before
unfoldable pub next_allowed : MapJudge → MapEntry → ℕ → ℕ → Bool
next_allowed j e floor seen = leb floor e.offset && (eqb seen 0 && entry_allowed j.version j.length e)

unfoldable pub handles_of : MapEntry → Table → Table
handles_of e before = cond (eqb e.kind 8) (record { count = e.size; offset = e.offset }) before

-- where the going over entries stands: the next place, the least offset, which of the 21 codes were seen, the handles so far
pub record Scan : Type 0 where
  pub place : ℕ
  pub floor : ℕ
  pub seen : List ℕ
  pub handles : Table

abbrev pub after_entry : Scan → MapEntry → Scan
after_entry t e = record { place = t.place + 12; floor = e.offset + 1; seen = set t.seen (map_code_number e.kind) 1; handles = handles_of e t.handles }

-- an entry, judged: "All these faults are 16, at the map's offset."
unfoldable pub judged : MapJudge → Scan → MapEntry → Outcome (Found MapEntry Scan)
judged j t e =
    given (ltb (map_code_number e.kind) 21) (wrong_map j.at)
    (given (next_allowed j e t.floor (get_or t.seen (map_code_number e.kind) 0)) (wrong_map j.at)
    (answer (record { item = e; next = after_entry t e })))

unfoldable pub step_at : List ℕ → MapJudge → Scan → Outcome (Found MapEntry Scan)
step_at s j t = judged j t (entry_at j.order s t.place)

-- "Without type 8 there are no handles."
abbrev pub begin : ℕ → Scan
begin from = record { place = from; floor = 0; seen = replicate 21 0; handles = record { count = 0; offset = 0 } }

-- what the map says
pub record Map : Type 0 where
  pub entries : List MapEntry
  pub handles : Table

-- the list at the map's offset: its length first (9), then its entries
unfoldable pub list_of : List ℕ → MapJudge → ℕ → Outcome Map
list_of s j count =
    given (leb (j.at + 4 + 12 * count) (length s)) (runs_past j.at) do
      r ← collect count (step_at s j) (begin (j.at + 4))
      answer (record { entries = r.item; handles = r.next.handles })

unfoldable pub list_at : List ℕ → MapJudge → Outcome Map
list_at s j = given (leb (j.at + 4) (length s)) (runs_past j.at) (list_of s j (u32_at j.order s j.at))

abbrev pub judge_of : List ℕ → Header → MapJudge
judge_of f header = record { order = header.order; version = header.version; length = length f; at = header.map }

-- the map of a file with this header: 8 at place 0 for its own offset, which is a multiple of 4
unfoldable pub map_at : List ℕ → Header → Outcome Map
map_at f header = given (allowed header.start (length (up_to_end f header)) true header.map) (wrong_offset 0) (list_at (up_to_end f header) (judge_of f header))

-- what the code keeps
abbrev pub kept : Map → Outcome MapList
kept m = answer (record { count = length m.entries; handles = m.handles })

unfoldable pub scan_at : List ℕ → MapJudge → ℕ → ℕ → Outcome Table
scan_at s j from count = do
  r ← collect count (step_at s j) (begin from)
  answer r.next.handles

unfoldable pub kept_list_at : List ℕ → MapJudge → Outcome MapList
kept_list_at s j = list_at s j >>= kept

unfoldable pub kept_at : List ℕ → Header → Outcome MapList
kept_at f header = map_at f header >>= kept
