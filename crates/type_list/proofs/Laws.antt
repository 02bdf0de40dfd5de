-- What the functions' proofs cite: an entry, the loop over all of them, and the stages of the list.
-- Assumes nothing.
use Prim.Native.Nat.{ℕ, zero, suc, ◌+◌, ◌*◌, ◌≤◌, ◌<◌}
use mathlib.Core.Path.{◌≡◌, refl, ap, sym, ◌∙◌}
use mathlib.Core.Bool.{cond}
use mathlib.Core.Logic.{◌⊎◌, inl, inr}
use mathlib.Core.List.{List}
use lib.ListN.{length}
use lib.Dec.{ltb}
use borrow.Author.Rules.{rules}
use borrow.Author.Tests.{lt-ltb, le-ltb}
use native.Mathlib.Omega.{arith}
use Rattle.refusal.specs.Refusals.{wrong_index}
use Rattle.refusal.specs.declared.Refusal.{Refusal}
use Rattle.refusal.specs.Outcome.{Outcome, answer, refused, ◌>>=◌, present, accepted}
use Rattle.refusal.specs.Rows.{every}
use Rattle.refusal.proofs.Laws.{tests, calls, passes, fails, picks, leaves, bind_answer, bind_refused}
use Rattle.refusal.proofs.Kept.{made_kept, present_kept, absent_kept}
use Rattle.refusal.proofs.Loops.{Numbers, numbers_first, numbers_next, numbers_stop, numbers_done}
use Rattle.word.proofs.Laws.{u16_past}
use Rattle.frame.specs.Counted.{counted as fits}
use Rattle.frame.proofs.Laws.{behind_count}
use Rattle.refusal.proofs.Rows.{bind_assoc}
use Rattle.type_list.specs.declared.TypeListJudge.{TypeListJudge}
use Rattle.header.specs.declared.Header.{Header}
use Rattle.header.specs.Header.{up_to_end}
use Rattle.type_list.specs.TypeList.{entry_number, entry_at, list_of, list_at, counted, count_at, all_at}
use Rattle.type_list.specs.Below.{list_judge, types_below, list_count}
use Rattle.type_list.proofs.Exactly.{counted as counts}

pub entry_past : (s : List ℕ) (j : TypeListJudge) (k : ℕ) → length s ≤ j.at → 0 ≡ entry_number s j k
entry_past s j k h = u16_past j.order s (j.at + 4 + 2 * k) (omega arith)

-- ---- the loop of `all`: entry k is next
module _ (s : List ℕ) (j : TypeListJudge) {count k : ℕ} (h : Numbers (entry_at s j) count k) where
  pub going_next : {t : ℕ} → k < count → t ≡ entry_number s j k → t < j.types → Numbers (entry_at s j) count (k + 1)
  unfolding entry_at
  going_next l e p = numbers_next h l (passes (wrong_index j.at) (lt-ltb (entry_number s j k) j.types (let z = e in omega arith)) refl)

  pub going_stop : {t : ℕ} {r : Refusal} → k < count → t ≡ entry_number s j k → j.types ≤ t → r ≡ wrong_index j.at → refused r ≡ all_at s j count
  unfolding all_at entry_at
  going_stop l e p made = numbers_stop h accepted l (fails _ made (le-ltb (entry_number s j k) j.types (let z = e in omega arith)))

  pub going_done : count ≤ k → answer tt ≡ all_at s j count
  unfolding all_at
  going_done l = numbers_done h l

-- ---- the stages of the list
module _ (s : List ℕ) (j : TypeListJudge) where
  entries : count_at s j ≡ (fits s j.order j.at 2 >>= λ (count : ℕ). all_at s j count >>= λ (u : Unit). answer count)
  unfolding count_at list_at list_of all_at ◌>>=◌
  entries =
      ap (λ (o : Outcome (List ℕ)). o >>= counted) (behind_count s j.order j.at 2 (every (entry_at s j)))
      ∙ bind_assoc (fits s j.order j.at 2) (every (entry_at s j)) counted
      ∙ ap (λ (k : ℕ → Outcome ℕ). fits s j.order j.at 2 >>= k) (λ i count. go count (every (entry_at s j) count) refl i)
    where
      go : (count : ℕ) (o : Outcome (List ℕ)) → every (entry_at s j) count ≡ o → (o >>= counted) ≡ ((o >>= accepted) >>= λ (u : Unit). answer count)
      go count (answer l) e = ap answer (counts s j count l e)
      go count (refused x) e = refl

  pub list_uncounted : {r : Refusal} → refused r ≡ fits s j.order j.at 2 → refused r ≡ count_at s j
  list_uncounted e = sym (entries ∙ bind_refused _ (sym e))

  module _ {count : ℕ} (read : answer count ≡ fits s j.order j.at 2) where
    pub list_got : {u : Unit} → answer u ≡ all_at s j count → answer count ≡ count_at s j
    list_got e = sym (entries ∙ bind_answer _ (sym read) ∙ bind_answer _ (sym e))

    pub list_refused : {r : Refusal} → refused r ≡ all_at s j count → refused r ≡ count_at s j
    list_refused e = sym (entries ∙ bind_answer _ (sym read) ∙ bind_refused _ (sym e))

-- a list that was read in the file up to the data section's end, s
module _ (f : List ℕ) (h : Header) (j : TypeListJudge) {s : List ℕ} {y : Outcome ℕ} where
  pub count_in : s ≡ up_to_end f h → y ≡ count_at s j → y ≡ count_at (up_to_end f h) j
  count_in e q = q ∙ ap (λ (x : List ℕ). count_at x j) e

-- ---- the list at an offset
pub types_by : (f : List ℕ) (h : Header) (at : ℕ) {y : Outcome Unit} → y ≡ (list_count f h at >>= accepted) → y ≡ (types_below f h at >>= accepted)
unfolding types_below list_count count_at
types_by f h at e = e ∙ go (or_zero at)
  where
    or_zero : (n : ℕ) → (0 < n) ⊎ (n ≤ 0)
    or_zero zero = inr (omega arith)
    or_zero (suc n) = inl (omega arith)

    go : (0 < at) ⊎ (at ≤ 0) → (cond (ltb 0 at) (count_at (up_to_end f h) (list_judge h at)) (answer 0) >>= accepted) ≡ (present at (list_at (up_to_end f h) (list_judge h at)) >>= accepted)
    go (inl p) =
        ap (λ (o : Outcome ℕ). o >>= accepted) (sym (picks (answer 0) (lt-ltb 0 at p) refl))
        ∙ made_kept _ (list_at (up_to_end f h) (list_judge h at))
        ∙ present_kept (list_at (up_to_end f h) (list_judge h at)) p refl
    go (inr p) = ap (λ (o : Outcome ℕ). o >>= accepted) (sym (leaves (count_at (up_to_end f h) (list_judge h at)) (le-ltb 0 at p) refl)) ∙ bind_answer accepted refl ∙ absent_kept (list_at (up_to_end f h) (list_judge h at)) p

pub ruleset going = (entry_past, numbers_first, going_next, going_stop, going_done, rules)

pub ruleset list_laws = (list_uncounted, list_got, list_refused, calls, tests, rules)

pub ruleset below_laws = (count_in, types_by, calls, tests, rules)
