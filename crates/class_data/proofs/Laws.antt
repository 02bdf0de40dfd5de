-- What the functions' proofs cite: the stages of the whole, and lists by their numbers.
-- Assumes nothing.
use Prim.Native.Nat.{ℕ, ◌<◌, ◌≤◌}
use mathlib.Core.Path.{◌≡◌, refl, ap, sym, ◌∙◌}
use mathlib.Core.Bool.{Bool, true, false, cond}
use mathlib.Core.List.{List, []}
use lib.ListN.{length, get_or}
use lib.Dec.{ltb, eqb}
use borrow.Author.Rules.{rules}
use borrow.Author.Tests.{lt-ltb, le-ltb}
use native.Mathlib.Omega.{arith}
use Rattle.refusal.specs.Refusals.{not_there}
use Rattle.refusal.specs.declared.Refusal.{Refusal}
use Rattle.refusal.specs.Outcome.{Outcome, answer, refused, ◌>>=◌, given}
use Rattle.refusal.specs.Rows.{Found}
use Rattle.refusal.proofs.Laws.{tests, calls, bind_answer, passes, fails}
use Rattle.refusal.proofs.Rows.{bind_assoc}
use Rattle.frame.specs.declared.Frame.{Frame}
use Rattle.class_members.specs.declared.Member.{Member}
use Rattle.class_members.specs.declared.MemberJudge.{MemberJudge}
use Rattle.class_members.specs.Members.{nobody, members_at, kept_members}
use Rattle.class_members.proofs.Laws.{members_by}
use Rattle.class_data.specs.declared.Counts.{Counts}
use Rattle.class_data.specs.declared.KeptMembers.{KeptMembers}
use Rattle.class_data.specs.declared.Methods.{Methods}
use Rattle.class_data.specs.Data.{counts_at, Two, two_at, fields_judge, methods_judge, ClassData, class_data_at, counts, extent_at, methods_at, one_of_four, list_of, member_of_list, KeptTwo, kept_two, KeptData, kept_data_at, methods_from, count_in, member_in}

-- ---- the stages: of each list one member and the count are kept
module _ (s : List ℕ) (item k : ℕ) {B : Type 0} where
  two_by : (j : MemberJudge) (from m n : ℕ) (f : Found Two ℕ → Outcome B) (g : KeptTwo → Outcome B)
      → ((t : Found Two ℕ) → length t.item.first ≡ m → length t.item.second ≡ n
      → f t ≡ g (record { first = get_or t.item.first k nobody; second = get_or t.item.second k nobody; next = t.next }))
      → (two_at s j item from m n >>= f) ≡ (kept_two s j item from m n k >>= g)
  unfolding two_at kept_two
  two_by j from m n f g h =
      bind_assoc (members_at s j item from m) _ f
      ∙ members_by s item k j from m _ (λ (x : Found Member ℕ). kept_members s j item x.next n k >>= λ (y : Found Member ℕ). g (record { first = x.item; second = y.item; next = y.next }))
      (λ x size. bind_assoc (members_at s j item x.next.place n) _ f
      ∙ members_by s item k j x.next.place n _ _ (λ y more. bind_answer f refl ∙ h (record { item = record { first = x.item; second = y.item }; next = y.next.place }) size more))
      ∙ sym (bind_assoc (kept_members s j item from m k) _ g ∙ λ i. kept_members s j item from m k >>= λ (x : Found Member ℕ). inner x i)
    where
      inner : (x : Found Member ℕ)
          → ((kept_members s j item x.next n k >>= λ (y : Found Member ℕ). answer (record { first = x.item; second = y.item; next = y.next })) >>= g)
          ≡ (kept_members s j item x.next n k >>= λ (y : Found Member ℕ). g (record { first = x.item; second = y.item; next = y.next }))
      inner x = bind_assoc (kept_members s j item x.next n k) _ g ∙ λ i. kept_members s j item x.next n k >>= λ (y : Found Member ℕ). bind_answer {o = answer (record { first = x.item; second = y.item; next = y.next })} g refl i

abbrev holding : ℕ → ClassData → Outcome KeptData
holding k d = answer (record {
  counts = counts d;
  members = record { statics = get_or d.statics k nobody; instances = get_or d.instances k nobody; directs = get_or d.directs k nobody; virtuals = get_or d.virtuals k nobody };
  methods = d.methods;
  end = d.end;
})

module _ (s : List ℕ) (f : Frame) (item : ℕ) where
  kept_whole : (k : ℕ) → (class_data_at s f item >>= holding k) ≡ kept_data_at s f item k
  unfolding class_data_at kept_data_at
  kept_whole k = bind_assoc (counts_at s item) _ (holding k) ∙ λ i. counts_at s item >>= λ (c : Found Counts ℕ). lists c i
    where
      lists : (c : Found Counts ℕ) → ((two_at s (fields_judge f) item c.next c.item.statics c.item.instances >>= λ (x : Found Two ℕ).
          two_at s (methods_judge f) item x.next c.item.directs c.item.virtuals >>= λ (y : Found Two ℕ).
          answer (record { statics = x.item.first; instances = x.item.second; directs = y.item.first; virtuals = y.item.second; methods = x.next; end = y.next })) >>= holding k)
          ≡ (kept_two s (fields_judge f) item c.next c.item.statics c.item.instances k >>= λ (x : KeptTwo).
          kept_two s (methods_judge f) item x.next c.item.directs c.item.virtuals k >>= λ (y : KeptTwo).
          answer (record { counts = c.item; members = record { statics = x.first; instances = x.second; directs = y.first; virtuals = y.second }; methods = x.next; end = y.next }))
      lists c =
          bind_assoc (two_at s (fields_judge f) item c.next c.item.statics c.item.instances) _ (holding k)
          ∙ two_by s item k (fields_judge f) c.next c.item.statics c.item.instances _ _
          (λ x a b. bind_assoc (two_at s (methods_judge f) item x.next c.item.directs c.item.virtuals) _ (holding k)
          ∙ two_by s item k (methods_judge f) x.next c.item.directs c.item.virtuals _ _
          (λ y u v. bind_answer (holding k) refl ∙ λ i. answer (record {
            counts = record { statics = a i; instances = b i; directs = u i; virtuals = v i };
            members = record { statics = get_or x.item.first k nobody; instances = get_or x.item.second k nobody; directs = get_or y.item.first k nobody; virtuals = get_or y.item.second k nobody };
            methods = x.next;
            end = y.next;
          })))

  pub extent_by : {y : Outcome (Found Counts ℕ)} → y ≡ (kept_data_at s f item 0 >>= λ (h : KeptData). answer (record { item = h.counts; next = h.end })) → y ≡ extent_at s f item
  unfolding extent_at ◌>>=◌
  extent_by e = e ∙ ap (λ (o : Outcome KeptData). o >>= λ (h : KeptData). answer (record { item = h.counts; next = h.end })) (sym (kept_whole 0)) ∙ bind_assoc (class_data_at s f item) (holding 0) _

  -- the methods alone: of a list no more is asked for than its length and where it ends
  abbrev found_methods : ClassData → Outcome Methods
  found_methods d = answer (record { directs = length d.directs; virtuals = length d.virtuals; from = d.methods })

  pub methods_by : {y : Outcome Methods}
      → y ≡ (counts_at s item >>= λ (c : Found Counts ℕ). kept_two s (fields_judge f) item c.next c.item.statics c.item.instances 0 >>= λ (x : KeptTwo). methods_from s f item c.item x.next)
      → y ≡ methods_at s f item
  unfolding methods_at class_data_at methods_from
  methods_by e = e ∙ sym (bind_assoc (counts_at s item) _ found_methods ∙ λ i. counts_at s item >>= λ (c : Found Counts ℕ). after_counts c i)
    where
      after_counts : (c : Found Counts ℕ) → ((two_at s (fields_judge f) item c.next c.item.statics c.item.instances >>= λ (x : Found Two ℕ).
          two_at s (methods_judge f) item x.next c.item.directs c.item.virtuals >>= λ (y : Found Two ℕ).
          answer (record { statics = x.item.first; instances = x.item.second; directs = y.item.first; virtuals = y.item.second; methods = x.next; end = y.next })) >>= found_methods)
          ≡ (kept_two s (fields_judge f) item c.next c.item.statics c.item.instances 0 >>= λ (x : KeptTwo).
          kept_two s (methods_judge f) item x.next c.item.directs c.item.virtuals 0 >>= λ (y : KeptTwo).
          answer (record { directs = c.item.directs; virtuals = c.item.virtuals; from = x.next }))
      after_counts c =
          bind_assoc (two_at s (fields_judge f) item c.next c.item.statics c.item.instances) _ found_methods
          ∙ two_by s item 0 (fields_judge f) c.next c.item.statics c.item.instances _ _
          (λ x a b. bind_assoc (two_at s (methods_judge f) item x.next c.item.directs c.item.virtuals) _ found_methods
          ∙ two_by s item 0 (methods_judge f) x.next c.item.directs c.item.virtuals _ _
          (λ y u v. bind_answer found_methods refl ∙ λ i. answer (record { directs = u i; virtuals = v i; from = x.next })))

  -- a list by its number, in the list, its count and its member
  through : {A B : Type 0} (g : A → B) (list : ℕ) (a b c d e : A) → g (one_of_four list a b c d e) ≡ one_of_four list (g a) (g b) (g c) (g d) (g e)
  through {A} {B} g list a b c d e = go (eqb list 0) a _ _ (go (eqb list 1) b _ _ (go (eqb list 2) c _ _ (go (eqb list 3) d _ _ refl)))
    where
      go : (t : Bool) (x y : A) (z : B) → g y ≡ z → g (cond t x y) ≡ cond t (g x) z
      go true x y z p = refl
      go false x y z p = p

  pub member_by : (list k : ℕ) {y : Outcome Member} → y ≡ (kept_data_at s f item k >>= λ (h : KeptData). given (ltb k (count_in list h.counts)) not_there (answer (member_in list h.members))) → y ≡ member_of_list s f item list k
  unfolding member_of_list count_in member_in
  member_by list k e =
      e ∙ ap (λ (o : Outcome KeptData). o >>= λ (h : KeptData). given (ltb k (count_in list h.counts)) not_there (answer (member_in list h.members))) (sym (kept_whole k))
      ∙ bind_assoc (class_data_at s f item) (holding k) _
      ∙ λ i. class_data_at s f item >>= λ (d : ClassData). (bind_answer {o = holding k d} (λ (h : KeptData). given (ltb k (count_in list h.counts)) not_there (answer (member_in list h.members))) refl ∙ same d) i
    where
      same : (d : ClassData) → given (ltb k (one_of_four list (length d.statics) (length d.instances) (length d.directs) (length d.virtuals) 0)) not_there
          (answer (one_of_four list (get_or d.statics k nobody) (get_or d.instances k nobody) (get_or d.directs k nobody) (get_or d.virtuals k nobody) nobody))
          ≡ given (ltb k (length (list_of list d))) not_there (answer (get_or (list_of list d) k nobody))
      same d = λ i. given (ltb k (sym (through length list d.statics d.instances d.directs d.virtuals []) i)) not_there
          (answer (sym (through (λ (l : List Member). get_or l k nobody) list d.statics d.instances d.directs d.virtuals []) i))

-- the count and the member that were asked for
module _ (list k : ℕ) (c : Counts) (m : KeptMembers) {n : ℕ} (e : n ≡ count_in list c) where
  pub member_there : {a : Member} → k < n → a ≡ member_in list m → answer a ≡ given (ltb k (count_in list c)) not_there (answer (member_in list m))
  member_there p q = passes not_there (lt-ltb k (count_in list c) (omega arith)) (ap answer q)

  pub member_lacks : {r : Refusal} → n ≤ k → r ≡ not_there → refused r ≡ given (ltb k (count_in list c)) not_there (answer (member_in list m))
  member_lacks p made = fails _ made (le-ltb k (count_in list c) (omega arith))

-- ---- what this crate's functions are searched with
pub ruleset part_laws = (calls, tests, rules)

pub ruleset stage_laws = (extent_by, methods_by, member_by, member_there, member_lacks, calls, tests, rules)
