-- The map list as a rule: what stands where, with no walk.
use Rattle.std.specs.Prelude.{ℕ, ◌+◌, ◌*◌, ◌%◌, ◌≤◌, ◌<◌, ◌≡◌, true, List, length}
use Rattle.refusal.specs.Exact.{At, Each, Rising}
use Rattle.word.specs.Words.{u32_at}
use Rattle.header.specs.declared.Header.{Header}
use Rattle.header.specs.declared.Table.{Table}
use Rattle.header.specs.Header.{up_to_end}
use Rattle.frame.specs.Offsets.{Allowed}
use Rattle.map_list.specs.declared.MapEntry.{MapEntry}
use Rattle.map_list.specs.declared.MapJudge.{MapJudge}
use Rattle.map_list.specs.Codes.{codes}
use Rattle.map_list.specs.Map.{entry_at, judge_of, Map}

-- where method handles may lie
pub record HandlesRule (len size offset : ℕ) : Type 0 where
  pub after_header : 112 ≤ offset
  pub multiple : offset % 4 ≡ 0
  pub inside : offset + 8 * size ≤ len

-- an entry by itself: its code is in the table, and types 7 and 8 want version 038
pub record MapEntryRule (j : MapJudge) (e : MapEntry) : Type 0 where
  pub code : (i : ℕ) × At codes i e.kind
  pub call_sites : e.kind ≡ 7 → 38 ≤ j.version
  pub handles_version : e.kind ≡ 8 → 38 ≤ j.version
  pub handles_place : e.kind ≡ 8 → HandlesRule j.length e.size e.offset

-- the entry that stands at a place
pub record MapEntryAt (s : List ℕ) (j : MapJudge) (p : ℕ) (e : MapEntry) : Type 0 where
  pub stands : entry_at j.order s p ≡ e
  pub rule : MapEntryRule j e

abbrev pub Lower : MapEntry → MapEntry → Type 0
Lower a b = a.offset < b.offset

-- the handles are those of the entry of type 8, or there are none
pub data HandlesIn (l : List MapEntry) : Table → Type 0 where
  named : {k : ℕ} {e : MapEntry} → At l k e → e.kind ≡ 8 → HandlesIn l (record { count = e.size; offset = e.offset })
  unnamed : ((k : ℕ) (e : MapEntry) → At l k e → e.kind ≡ 8 → ⊥) → HandlesIn l (record { count = 0; offset = 0 })

-- as many entries as the stored size says, with room for all of them, entry k at its place, offsets that rise, each type at most once
pub record MapEntriesRule (s : List ℕ) (j : MapJudge) (m : Map) : Type 0 where
  pub room : j.at + 4 + 12 * u32_at j.order s j.at ≤ length s
  pub entries : Each (λ (k : ℕ) (e : MapEntry). MapEntryAt s j (j.at + 4 + 12 * k) e) (u32_at j.order s j.at) m.entries
  pub rising : Rising Lower m.entries
  pub once : {i k : ℕ} {a b : MapEntry} → At m.entries i a → At m.entries k b → a.kind ≡ b.kind → i ≡ k
  pub handles : HandlesIn m.entries m.handles

pub record MapRule (f : List ℕ) (header : Header) (m : Map) : Type 0 where
  pub offset : Allowed header.start (length (up_to_end f header)) true header.map
  pub list : MapEntriesRule (up_to_end f header) (judge_of f header) m
