-- The reading of class data finds exactly what the rule allows.
-- Assumes nothing.
use Prim.Native.Nat.{ℕ, ◌<◌, ◌≤◌}
use mathlib.Core.Path.{◌≡◌, refl, subst}
use mathlib.Core.List.{List}
use lib.ListN.{length}
use native.Mathlib.Omega.{arith}
use Rattle.refusal.specs.Outcome.{answer, ◌>>=◌}
use Rattle.refusal.specs.Rows.{Found}
use Rattle.refusal.specs.Exact.{Exact}
use Rattle.refusal.proofs.Exact.{same, answer_exact, bind_exact, exact_iff}
use Rattle.leb128.specs.Rules.{Uleb}
use Rattle.leb128.proofs.Exactly.{uleb_exact}
use Rattle.frame.specs.declared.Frame.{Frame}
use Rattle.class_members.specs.declared.MemberJudge.{MemberJudge}
use Rattle.class_members.specs.declared.Member.{Member}
use Rattle.class_members.specs.Members.{Run, members_at}
use Rattle.class_members.specs.Rules.{MembersRule}
use Rattle.class_members.proofs.Exactly.{by_place, members_then, uleb_on, members_on}
use Rattle.class_data.specs.declared.Counts.{Counts}
use Rattle.class_data.specs.Data.{Both, two_numbers_at, counts_at, Two, two_at, fields_judge, methods_judge, ClassData, class_data_at}
use Rattle.class_data.specs.Rules.{CountsRule, DataRule}

-- ---- two lists
abbrev two : Found (List Member) ℕ → Found (List Member) ℕ → Found Two ℕ
two x y = record { item = record { first = x.item; second = y.item }; next = y.next }

module _ (s : List ℕ) (j : MemberJudge) (item from m n : ℕ) where
  record BothLists (r : Found Two ℕ) : Type 0 where
    middle : ℕ
    first_list : MembersRule s j from m r.item.first middle
    second_list : MembersRule s j middle n r.item.second r.next

  two_exact : Exact (two_at s j item from m n) BothLists
  unfolding two_at
  two_exact =
      exact_iff (members_then s j item from m (λ (x : Found (List Member) ℕ). members_at s j item x.next n >>= λ (y : Found (List Member) Run). answer (two x (by_place y))) _
      (λ x. members_then s j item x.next n (λ (y : Found (List Member) ℕ). answer (two x y)) _ (λ y. answer_exact (two x y))))
      (λ r h. subst BothLists h.1.1.1.1 (record { middle = h.0.next; first_list = h.1.0; second_list = h.1.1.1.0 }))
      (λ r h. (record { item = r.item.first; next = h.middle }, (h.first_list, (record { item = r.item.second; next = r.next }, (h.second_list, refl)))))

-- ---- the counts
module _ (s : List ℕ) (item : ℕ) where
  record TwoNumbers (p : ℕ) (r : Found Both ℕ) : Type 0 where
    middle : ℕ
    one : Uleb s p (record { item = r.item.first; next = middle })
    other : Uleb s middle (record { item = r.item.second; next = r.next })

  pair_exact : (p : ℕ) → Exact (two_numbers_at s item p) (TwoNumbers p)
  unfolding two_numbers_at
  pair_exact p =
      exact_iff (bind_exact _ _ (uleb_exact s item p) (λ a. bind_exact _ _ (uleb_exact s item a.next) (λ b. answer_exact _)))
      (λ r h. subst (TwoNumbers p) h.1.1.1.1 (record { middle = h.0.next; one = h.1.0; other = h.1.1.1.0 }))
      (λ r h. (record { item = r.item.first; next = h.middle }, (h.one, (record { item = r.item.second; next = r.next }, (h.other, refl)))))

  counts_exact : Exact (counts_at s item) (λ (r : Found Counts ℕ). CountsRule s item r.item r.next)
  unfolding counts_at
  counts_exact =
      exact_iff (bind_exact _ _ (pair_exact item) (λ a. bind_exact _ _ (pair_exact a.next) (λ b. answer_exact _)))
      (λ r h. subst (λ (x : Found Counts ℕ). CountsRule s item x.item x.next) h.1.1.1.1
      (record { after_first = h.1.0.middle; after_second = h.0.next; after_third = h.1.1.1.0.middle; statics = h.1.0.one; instances = h.1.0.other; directs = h.1.1.1.0.one; virtuals = h.1.1.1.0.other }))
      (λ r h. (
        record { item = record { first = r.item.statics; second = r.item.instances }; next = h.after_second },
        (
          record { middle = h.after_first; one = h.statics; other = h.instances },
          (record { item = record { first = r.item.directs; second = r.item.virtuals }; next = r.next }, (record { middle = h.after_third; one = h.directs; other = h.virtuals }, refl)),
        ),
      ))

-- ---- the whole
pub data_exact : (s : List ℕ) (f : Frame) (item : ℕ) → Exact (class_data_at s f item) (DataRule s f item)
unfolding class_data_at
data_exact s f item =
    exact_iff (bind_exact _ _ (counts_exact s item) (λ c. bind_exact _ _ (two_exact s (fields_judge f) item c.next c.item.statics c.item.instances)
    (λ x. bind_exact _ _ (two_exact s (methods_judge f) item x.next c.item.directs c.item.virtuals) (λ y. answer_exact _))))
    (λ d h. subst (DataRule s f item) h.1.1.1.1.1.1
    (record {
      counts = h.0.item;
      after_counts = h.0.next;
      after_statics = h.1.1.1.0.middle;
      after_directs = h.1.1.1.1.1.0.middle;
      counted = h.1.0;
      statics = h.1.1.1.0.first_list;
      instances = h.1.1.1.0.second_list;
      directs = h.1.1.1.1.1.0.first_list;
      virtuals = h.1.1.1.1.1.0.second_list;
    }))
    (λ d h. (
      record { item = h.counts; next = h.after_counts },
      (
        h.counted,
        (
          record { item = record { first = d.statics; second = d.instances }; next = d.methods },
          (
            record { middle = h.after_statics; first_list = h.statics; second_list = h.instances },
            (record { item = record { first = d.directs; second = d.virtuals }; next = d.end }, (record { middle = h.after_directs; first_list = h.directs; second_list = h.virtuals }, refl)),
          ),
        ),
      ),
    ))

-- two readings of one place are equal
pub data_same : (s : List ℕ) (f : Frame) (item : ℕ) (d e : ClassData) → DataRule s f item d → DataRule s f item e → d ≡ e
data_same s f item = same (data_exact s f item)

-- ---- bounds: class data ends after its place, and within the slice
pub data_lies : (s : List ℕ) (f : Frame) (item : ℕ) (d : ClassData) → DataRule s f item d → (item < d.end) × (d.end ≤ length s)
data_lies s f item d h =
    let a = uleb_on s h.counted.statics in
    let b = uleb_on s h.counted.instances in
    let c = uleb_on s h.counted.directs in
    let e = uleb_on s h.counted.virtuals in
    let x = members_on s _ h.statics e.1 in
    let y = members_on s _ h.instances x.1 in
    let z = members_on s _ h.directs y.1 in
    let w = members_on s _ h.virtuals z.1 in
    (omega arith, w.1)
