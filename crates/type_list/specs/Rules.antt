-- A type list as a rule: what stands where, with no walk.
use Rattle.std.specs.Prelude.{ℕ, ◌+◌, ◌*◌, ◌≤◌, ◌<◌, ◌≡◌, List, length}
use Rattle.std.proofs.Math.Option.{Option}
use Rattle.refusal.specs.Exact.{Each, Present}
use Rattle.word.specs.Words.{u32_at}
use Rattle.header.specs.declared.Header.{Header}
use Rattle.header.specs.Header.{up_to_end}
use Rattle.type_list.specs.declared.TypeListJudge.{TypeListJudge}
use Rattle.type_list.specs.TypeList.{entry_number}
use Rattle.type_list.specs.Below.{list_judge}

pub record TypeEntryRule (s : List ℕ) (j : TypeListJudge) (k t : ℕ) : Type 0 where
  pub stands : entry_number s j k ≡ t
  pub range : t < j.types

-- as many entries as the stored size says, with room for all of them, and entry k at its place
pub record TypeListRule (s : List ℕ) (j : TypeListJudge) (l : List ℕ) : Type 0 where
  pub room : j.at + 4 + 2 * u32_at j.order s j.at ≤ length s
  pub entries : Each (TypeEntryRule s j) (u32_at j.order s j.at) l

-- the list that an offset leads to, none exactly where the offset is 0
abbrev pub TypesBelowRule : List ℕ → Header → ℕ → Option (List ℕ) → Type 0
TypesBelowRule f header at = Present (TypeListRule (up_to_end f header) (list_judge header at)) at
