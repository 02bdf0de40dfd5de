-- A type list's reading finds exactly what the rule allows.
-- Assumes nothing.
use Prim.Native.Nat.{ℕ, ◌+◌, ◌*◌, ◌<◌}
use mathlib.Core.Path.{◌≡◌, sym, subst}
use mathlib.Core.List.{List}
use lib.ListN.{length}
use native.Mathlib.Omega.{arith}
use Rattle.refusal.specs.Refusals.{runs_past, wrong_index}
use Rattle.refusal.specs.Outcome.{answer}
use Rattle.refusal.specs.Rows.{every}
use Rattle.refusal.specs.Exact.{Exact, Each}
use Rattle.refusal.proofs.Exact.{same, answer_exact, given_exact, exact_iff, present_exact, below, at_most}
use Rattle.refusal.proofs.Each.{every_exact}
use Rattle.word.specs.Words.{u32_at}
use Rattle.type_list.specs.declared.TypeListJudge.{TypeListJudge}
use Rattle.type_list.specs.TypeList.{entry_number, entry_at, list_of, list_at}
use Rattle.type_list.specs.Below.{list_judge, types_below}
use Rattle.type_list.specs.Rules.{TypeEntryRule, TypeListRule, TypesBelowRule}
use Rattle.header.specs.declared.Header.{Header}
use Rattle.header.specs.Header.{up_to_end}

module _ (s : List ℕ) (j : TypeListJudge) where
  entry_exact : (k : ℕ) → Exact (entry_at s j k) (TypeEntryRule s j k)
  unfolding entry_at
  entry_exact k =
      exact_iff (given_exact (wrong_index j.at) (below (entry_number s j k) j.types) (answer_exact _))
      (λ t h. record { stands = h.1; range = subst (λ (x : ℕ). x < j.types) h.1 h.0 })
      (λ t h. (subst (λ (x : ℕ). x < j.types) (sym h.stands) h.range, h.stands))

  all_exact : (count : ℕ) → Exact (every (entry_at s j) count) (Each (TypeEntryRule s j) count)
  all_exact = every_exact (TypeEntryRule s j) (entry_at s j) entry_exact

  -- as many entries as were asked for
  pub counted : (count : ℕ) (l : List ℕ) → every (entry_at s j) count ≡ answer l → length l ≡ count
  counted count l e = ((all_exact count).sound l e).count

  pub list_exact : Exact (list_at s j) (TypeListRule s j)
  unfolding list_at list_of
  list_exact =
      exact_iff (given_exact (runs_past j.at) (at_most (j.at + 4) (length s)) (given_exact (runs_past j.at) (at_most (j.at + 4 + 2 * u32_at j.order s j.at) (length s)) (all_exact (u32_at j.order s j.at))))
      (λ l h. record { room = h.1.0; entries = h.1.1 })
      (λ l h. let room = h.room in (omega arith, (h.room, h.entries)))

  pub list_same : (a b : List ℕ) → TypeListRule s j a → TypeListRule s j b → a ≡ b
  list_same = same list_exact

-- the list at an offset, or none
pub types_below_exact : (f : List ℕ) (h : Header) (at : ℕ) → Exact (types_below f h at) (TypesBelowRule f h at)
unfolding types_below
types_below_exact f h at = present_exact at (list_exact (up_to_end f h) (list_judge h at))
