-- What the functions' proofs cite: the loop of `members_at`.
-- Assumes nothing.
use Prim.Native.Nat.{ℕ, ◌+◌, ◌<◌, ◌≤◌}
use mathlib.Core.Path.{◌≡◌, refl, sym, ◌∙◌}
use mathlib.Core.Bool.{Bool, true, false, cond}
use mathlib.Core.List.{List}
use lib.ListN.{length, get_or}
use lib.Dec.{eqb}
use borrow.Author.Rules.{rules}
use Rattle.refusal.specs.declared.Refusal.{Refusal}
use Rattle.refusal.specs.Outcome.{Outcome, answer, refused, ◌>>=◌}
use Rattle.refusal.specs.Rows.{Found}
use Rattle.refusal.specs.Choose.{choose}
use Rattle.refusal.proofs.Laws.{tests, calls, bind_answer, bind_refused}
use Rattle.refusal.proofs.Rows.{bind_assoc}
use Rattle.refusal.proofs.Choose.{Choosing, choosing_first, choosing_next, choosing_stop, choosing_done, chosen_by}
use Rattle.class_members.specs.declared.Member.{Member}
use Rattle.class_members.specs.declared.MemberJudge.{MemberJudge}
use Rattle.class_members.specs.Members.{member_at, Run, step_at, nobody, begin, members_at, placed, kept_members}

-- ---- the loop of `members_at` at its head: where it stands, and the kept member as three numbers
abbrev member_of : ℕ → ℕ → ℕ → Member
member_of index flags code = record { index = index; flags = flags; code = code }

pub record Members (s : List ℕ) (j : MemberJudge) (item from count k p base : ℕ) (later : Bool) (i index flags code : ℕ) : Type 0 where
  choosing : Choosing (step_at s j item) count (begin from) nobody k (record { place = p; base = base; later = later }) i (member_of index flags code)

pub members_first : (s : List ℕ) (j : MemberJudge) (item from count k : ℕ) → Members s j item from count k from 0 false 0 0 0 0
members_first s j item from count k = record { choosing = choosing_first (step_at s j item) count (begin from) nobody k }

-- a choice between two members is one for each of their numbers
chosen : (b : Bool) (new old : Member) → member_of (cond b new.index old.index) (cond b new.flags old.flags) (cond b new.code old.code) ≡ cond b new old
chosen true new old = refl
chosen false new old = refl

module _ {s : List ℕ} {j : MemberJudge} {item from count k p base : ℕ} {later : Bool} {i index flags code : ℕ} (h : Members s j item from count k p base later i index flags code) where
  pub members_next : {m : Member} {n a b c : ℕ} → i < count → answer (record { item = m; next = n }) ≡ member_at s j item base later p
      → a ≡ cond (eqb i k) m.index index → b ≡ cond (eqb i k) m.flags flags → c ≡ cond (eqb i k) m.code code
      → Members s j item from count k n m.index true (i + 1) a b c
  unfolding step_at
  members_next {m} l e at bt ct =
      record { choosing = choosing_next h.choosing l (sym (bind_answer _ (sym e))) ((λ i. member_of (at i) (bt i) (ct i)) ∙ chosen (eqb i k) m (member_of index flags code)) }

  pub members_stop : {r : Refusal} → i < count → refused r ≡ member_at s j item base later p → refused r ≡ kept_members s j item from count k
  unfolding kept_members step_at
  members_stop l e = sym (bind_refused placed (sym (choosing_stop h.choosing l (sym (bind_refused _ (sym e))))))

  pub members_done : count ≤ i → answer (record { item = member_of index flags code; next = p }) ≡ kept_members s j item from count k
  unfolding kept_members
  members_done l = sym (bind_answer placed (sym (choosing_done h.choosing l)))

-- ---- of a list one member is kept
module _ (s : List ℕ) (item k : ℕ) {B : Type 0} where
  pub members_by : (j : MemberJudge) (from n : ℕ) (f : Found (List Member) Run → Outcome B) (g : Found Member ℕ → Outcome B)
      → ((r : Found (List Member) Run) → length r.item ≡ n → f r ≡ g (record { item = get_or r.item k nobody; next = r.next.place }))
      → (members_at s j item from n >>= f) ≡ (kept_members s j item from n k >>= g)
  unfolding members_at kept_members
  members_by j from n f g h =
      chosen_by n (step_at s j item) nobody k (begin from) f (λ (r : Found Member Run). placed r >>= g) (λ r size. h r size ∙ sym (bind_answer g refl))
      ∙ sym (bind_assoc (choose n (step_at s j item) nobody k (begin from)) placed g)

-- ---- what this crate's functions are searched with
pub ruleset part_laws = (calls, tests, rules)

pub ruleset loop_laws = (members_first, members_next, members_stop, members_done, rules)
