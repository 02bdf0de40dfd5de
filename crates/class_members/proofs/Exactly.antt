-- The reading of a list of members finds exactly what the rule allows, and in such a list no later difference is 0.
-- Assumes nothing.
use Prim.Native.Nat.{ℕ, suc, ◌+◌, ◌<◌, ◌≤◌}
use mathlib.Core.Path.{◌≡◌, refl, ap, sym, subst, ◌∙◌}
use mathlib.Core.Bool.{Bool, true, false, false≢true}
use mathlib.Core.List.{List, [], ◌∷◌}
use lib.ListN.{length, take}
use native.Mathlib.Omega.{arith}
use Rattle.refusal.specs.Refusals.{out_of_order, wrong_index, wrong_offset}
use Rattle.refusal.specs.Outcome.{Outcome, answer, ◌>>=◌}
use Rattle.refusal.specs.Rows.{Found}
use Rattle.refusal.specs.Exact.{Exact, Decides, Row, empty, first, At, here, there, Each, Rising}
use Rattle.refusal.proofs.Exact.{answer_exact, given_exact, bind_exact, exact_iff, below, decided_yes}
use Rattle.refusal.proofs.Rows.{collect_exact}
use Rattle.refusal.proofs.Choose.{row_length}
use Rattle.refusal.proofs.Each.{at_below, at_some, at_same, rising_one, rising_cons, rising_tail}
use Rattle.leb128.specs.Rules.{Uleb}
use Rattle.leb128.proofs.Exactly.{uleb_exact}
use Rattle.leb128.proofs.Laws.{uleb_span}
use Rattle.frame.proofs.Laws.{or_absent_decides}
use Rattle.class_members.specs.declared.Member.{Member}
use Rattle.class_members.specs.declared.MemberJudge.{MemberJudge}
use Rattle.class_members.specs.Members.{apart, offset_at, code_at, rest_at, member_at, Run, step_at, begin, members_at}
use Rattle.class_members.specs.Rules.{CodeOffsetRule, StoredMember, StoredMemberRule, added_up, LowerIndex, MembersRule}

-- ---- a member
apart_decides : (later : Bool) (d : ℕ) → Decides (apart later d) (later ≡ true → 0 < d)
unfolding apart
apart_decides true d = record { sound = λ t e. (below 0 d).sound t; complete = λ h. (below 0 d).complete (h refl) }
apart_decides false d = decided_yes λ e. absurd (false≢true e)

code_exact : (s : List ℕ) (code : Bool) (start item p : ℕ) → Exact (code_at s code start item p) (λ (r : Found ℕ ℕ). CodeOffsetRule s code start p r.item r.next)
unfolding code_at offset_at
code_exact s true start item p =
    exact_iff (bind_exact _ _ (uleb_exact s item p) (λ c. given_exact (wrong_offset item) (or_absent_decides start (length s) true c.item) (answer_exact c)))
    (λ r h. subst (λ (x : Found ℕ ℕ). CodeOffsetRule s true start p x.item x.next) h.1.1.1 (h.1.0, h.1.1.0))
    (λ r h. (r, (h.0, (h.1, refl))))
code_exact s false start item p =
    exact_iff (answer_exact (record { item = 0; next = p }))
    (λ r h. subst (λ (x : Found ℕ ℕ). CodeOffsetRule s false start p x.item x.next) h (refl, refl))
    (λ r h. λ i. record { item = h.0 i; next = h.1 i })

-- the member that these numbers say, and where the list goes on
abbrev said_by : Run → Found ℕ ℕ → Found ℕ ℕ → Found ℕ ℕ → Found Member ℕ
said_by t d f c = record { item = record { index = t.base + d.item; flags = f.item; code = c.item }; next = c.next }

abbrev goes_on : Found Member ℕ → Found Member Run
goes_on m = record { item = m.item; next = record { place = m.next; base = m.item.index; later = true } }

-- the numbers of a member, in the order of the reading
pub record Numbers (s : List ℕ) (j : MemberJudge) (t : Run) (m : Found Member ℕ) : Type 0 where
  d : Found ℕ ℕ
  f : Found ℕ ℕ
  c : Found ℕ ℕ
  stored : Uleb s t.place d
  apart_is : t.later ≡ true → 0 < d.item
  below_is : t.base + d.item < j.limit
  flags : Uleb s d.next f
  code : CodeOffsetRule s j.code j.start f.next c.item c.next
  whole : said_by t d f c ≡ m

numbers_exact : (s : List ℕ) (j : MemberJudge) (item : ℕ) (t : Run) → Exact (member_at s j item t.base t.later t.place) (Numbers s j t)
unfolding member_at rest_at
numbers_exact s j item t =
    exact_iff
    (bind_exact _ _ (uleb_exact s item t.place) (λ d. given_exact (out_of_order item) (apart_decides t.later d.item) (given_exact (wrong_index item) (below (t.base + d.item) j.limit)
    (bind_exact _ _ (uleb_exact s item d.next) (λ f. bind_exact _ _ (code_exact s j.code j.start item f.next) (λ c. answer_exact (said_by t d f c)))))))
    (λ m h. record { d = h.0; f = h.1.1.1.1.0; c = h.1.1.1.1.1.1.0; stored = h.1.0; apart_is = h.1.1.0; below_is = h.1.1.1.0; flags = h.1.1.1.1.1.0; code = h.1.1.1.1.1.1.1.0; whole = h.1.1.1.1.1.1.1.1 })
    (λ m h. (h.d, (h.stored, (h.apart_is, (h.below_is, (h.f, (h.flags, (h.c, (h.code, h.whole)))))))))

-- a step of the reading: an index is the last one's and a difference, which is not 0 but in front
record MemberStep (s : List ℕ) (j : MemberJudge) (t : Run) (m : Member) (u : Run) : Type 0 where
  difference : ℕ
  after_difference : ℕ
  after_flags : ℕ
  stored : Uleb s t.place (record { item = difference; next = after_difference })
  apart : t.later ≡ true → 0 < difference
  sum : t.base + difference ≡ m.index
  below : m.index < j.limit
  flags : Uleb s after_difference (record { item = m.flags; next = after_flags })
  code : CodeOffsetRule s j.code j.start after_flags m.code u.place
  base : m.index ≡ u.base
  later : true ≡ u.later

step_exact : (s : List ℕ) (j : MemberJudge) (item : ℕ) (t : Run) → Exact (step_at s j item t) (λ (r : Found Member Run). MemberStep s j t r.item r.next)
unfolding step_at
step_exact s j item t =
    exact_iff (bind_exact _ _ (numbers_exact s j item t) (λ m. answer_exact (goes_on m)))
    (λ r h. subst (λ (x : Found Member Run). MemberStep s j t x.item x.next) (ap goes_on h.1.0.whole ∙ h.1.1) (found h.1.0))
    (λ r h. (record { item = r.item; next = r.next.place }, (parted r h, λ i. record { item = r.item; next = record { place = r.next.place; base = h.base i; later = h.later i } })))
  where
    found : {m : Found Member ℕ} (h : Numbers s j t m) → MemberStep s j t (said_by t h.d h.f h.c).item (goes_on (said_by t h.d h.f h.c)).next
    found h = record { difference = h.d.item; after_difference = h.d.next; after_flags = h.f.next; stored = h.stored; apart = h.apart_is; sum = refl; below = h.below_is; flags = h.flags; code = h.code; base = refl; later = refl }

    parted : (r : Found Member Run) → MemberStep s j t r.item r.next → Numbers s j t (record { item = r.item; next = r.next.place })
    parted r h =
        let sum = h.sum in
        let low = h.below in
        record {
          d = record { item = h.difference; next = h.after_difference };
          f = record { item = r.item.flags; next = h.after_flags };
          c = record { item = r.item.code; next = r.next.place };
          stored = h.stored;
          apart_is = h.apart;
          below_is = omega arith;
          flags = h.flags;
          code = h.code;
          whole = λ i. record { item = record { index = h.sum i; flags = r.item.flags; code = r.item.code }; next = r.next.place };
        }

-- ---- lists
-- member number k of those that are stored after a member whose index is b
record StoredAfter (b : ℕ) (stored : List StoredMember) (k : ℕ) (m : Member) : Type 0 where
  difference : ℕ
  stands : At stored k (record { difference = difference; flags = m.flags; code = m.code })
  index : b + added_up (take (suc k) stored) ≡ m.index

abbrev Low : MemberJudge → List Member → Type 0
Low j l = (k : ℕ) (m : Member) → At l k m → m.index < j.limit

at_tail : {A : Type 0} {a b : A} {l : List A} {k : ℕ} → At (b ∷ l) (suc k) a → At l k a
at_tail (there m) = m

module _ (s : List ℕ) (j : MemberJudge) where
  -- a row of steps is a row of what is stored, in which differences add up
  record Laid (b n p : ℕ) (l : List Member) (q : ℕ) : Type 0 where
    stored : List StoredMember
    row : Row (StoredMemberRule s j) n p stored q
    members : Each (StoredAfter b stored) n l
    low : Low j l

  laid_first : {n q : ℕ} {t v : Run} {m : Member} {l : List Member} → MemberStep s j t m v → Laid v.base n v.place l q → Laid t.base (suc n) t.place (m ∷ l) q
  unfolding added_up
  laid_first {n} {q} {t} {v} {m} {l} h rest = record {
    stored = own ∷ rest.stored;
    row = first (record { after_difference = h.after_difference; after_flags = h.after_flags; difference = h.stored; flags = h.flags; code = h.code }) rest.row;
    members = record { count = ap suc rest.members.count; each = go };
    low = low;
  }
    where
      own : StoredMember
      own = record { difference = h.difference; flags = m.flags; code = m.code }

      go : {k : ℕ} {x : Member} → At (m ∷ l) k x → StoredAfter t.base (own ∷ rest.stored) k x
      go here = record { difference = h.difference; stands = here; index = let z = h.sum in omega arith }
      go (there a) =
          let x = rest.members.each a in
          let sum = x.index in
          let base = h.base in
          let z = h.sum in
          record { difference = x.difference; stands = there x.stands; index = omega arith }

      low : Low j (m ∷ l)
      low k x here = h.below
      low k x (there a) = rest.low _ x a

  laid : {n : ℕ} {t u : Run} {l : List Member} → Row (MemberStep s j) n t l u → Laid t.base n t.place l u.place
  laid empty = record { stored = []; row = empty; members = record { count = refl; each = λ m. absurd (let z = at_below m in omega arith) }; low = λ k x m. absurd (let z = at_below m in omega arith) }
  laid (first h r) = laid_first h (laid r)

  -- and a row of what is stored is one of steps
  step_of : {p q : ℕ} {a : StoredMember} {stored : List StoredMember} {base : ℕ} {m : Member} {later : Bool} → StoredMemberRule s j p a q → StoredAfter base (a ∷ stored) 0 m → m.index < j.limit → (later ≡ true → base < m.index)
      → MemberStep s j (record { place = p; base = base; later = later }) m (record { place = q; base = m.index; later = true })
  unfolding added_up
  step_of {p} {q} {a} {base = base} {m} h x low after =
      let same : a ≡ record { difference = x.difference; flags = m.flags; code = m.code } = at_same here x.stands in
      let sum = x.index in
      record {
        difference = a.difference;
        after_difference = h.after_difference;
        after_flags = h.after_flags;
        stored = h.difference;
        apart = λ t. let z = after t in omega arith;
        sum = omega arith;
        below = low;
        flags = subst (λ (y : StoredMember). Uleb s h.after_difference (record { item = y.flags; next = h.after_flags })) same h.flags;
        code = subst (λ (y : StoredMember). CodeOffsetRule s j.code j.start h.after_flags y.code q) same h.code;
        base = refl;
        later = refl;
      }

  after_first : {n : ℕ} {a : StoredMember} {stored : List StoredMember} {b : ℕ} {m : Member} {l : List Member} → Each (StoredAfter b (a ∷ stored)) (suc n) (m ∷ l) → Each (StoredAfter m.index stored) n l
  unfolding added_up
  after_first e = record {
    count = let z = e.count in omega arith;
    each = λ p.
        let head = (e.each here).index in
        let x = e.each (there p) in
        let sum = x.index in
        record { difference = x.difference; stands = at_tail x.stands; index = omega arith };
  }

  steps_of : {n p q : ℕ} {stored : List StoredMember} (base : ℕ) (later : Bool) (l : List Member) → Row (StoredMemberRule s j) n p stored q → Each (StoredAfter base stored) n l → Low j l → Rising LowerIndex l
      → (later ≡ true → (m : Member) → At l 0 m → base < m.index) → (u : Run) × (Row (MemberStep s j) n (record { place = p; base = base; later = later }) l u × (u.place ≡ q))
  steps_of base later [] empty e low rises after = (_, (empty, refl))
  steps_of base later (m ∷ l) empty e low rises after = absurd (let z = e.count in omega arith)
  steps_of base later [] (first h r) e low rises after = absurd (let z = e.count in omega arith)
  steps_of base later (m ∷ l) (first h r) e low rises after =
      let rest = steps_of m.index true l r (after_first e) (λ k x p. low (suc k) x (there p)) (rising_tail rises) (λ t x p. rises.rises here (there p)) in
      (rest.0, (first (step_of h (e.each here) (low 0 m here) (λ t. after t m here)) rest.1.0, rest.1.1))

-- a row of steps rises
module _ (s : List ℕ) (j : MemberJudge) where
  step_before : {n : ℕ} {t v u : Run} {m : Member} {l : List Member} → MemberStep s j t m v → Row (MemberStep s j) n v l u → Rising LowerIndex l → Rising LowerIndex (m ∷ l)
  step_before h empty rest = rising_one
  step_before h (first g r) rest =
      let base = h.base in
      let more = g.apart (sym h.later) in
      let sum = g.sum in
      rising_cons (omega arith) rest

  steps_rise : {n : ℕ} {t u : Run} {l : List Member} → Row (MemberStep s j) n t l u → Rising LowerIndex l
  steps_rise empty = record { rises = λ m n. absurd (let z = at_below n in omega arith) }
  steps_rise (first h rest) = step_before h rest (steps_rise rest)

-- the list and where it ends
abbrev pub by_place : Found (List Member) Run → Found (List Member) ℕ
by_place r = record { item = r.item; next = r.next.place }

module _ (s : List ℕ) (j : MemberJudge) (item from count : ℕ) where
  steps_exact : Exact (members_at s j item from count) (λ (r : Found (List Member) Run). Row (MemberStep s j) count (begin from) r.item r.next)
  unfolding members_at
  steps_exact = collect_exact (step_at s j item) (MemberStep s j) (step_exact s j item) count (begin from)

  -- the list that the reading finds obeys the rule, and a list that obeys it is the one that the reading finds
  pub members_sound : (r : Found (List Member) Run) → members_at s j item from count ≡ answer r → MembersRule s j from count r.item r.next.place
  members_sound r e =
      let row = steps_exact.sound r e in
      let x = laid s j row in
      record {
        stored = x.stored;
        row = x.row;
        members = record { count = x.members.count; each = λ m. let y = x.members.each m in let sum = y.index in record { difference = y.difference; stands = y.stands; index = omega arith } };
        below = λ {k} {m} p. x.low k m p;
        rises = steps_rise s j row;
      }

  pub members_read : {l : List Member} {q : ℕ} → MembersRule s j from count l q → (u : Run) × ((members_at s j item from count ≡ answer (record { item = l; next = u })) × (u.place ≡ q))
  members_read {l} {q} h =
      let zero_after : Each (StoredAfter 0 h.stored) count l = record { count = h.members.count; each = λ m. let y = h.members.each m in let sum = y.index in record { difference = y.difference; stands = y.stands; index = omega arith } } in
      let x = steps_of s j 0 false l h.row zero_after (λ k m p. h.below p) h.rises (λ t m p. absurd (false≢true t)) in
      (x.0, (steps_exact.complete (record { item = l; next = x.0 }) x.1.0, x.1.1))

  -- the reading and what follows it, which goes by the list and where it ends
  pub members_then : {B : Type 0} (k : Found (List Member) ℕ → Outcome B) (Q : Found (List Member) ℕ → B → Type 0) → ((r : Found (List Member) ℕ) → Exact (k r) (Q r))
      → Exact (members_at s j item from count >>= λ (r : Found (List Member) Run). k (by_place r)) (λ (b : B). (r : Found (List Member) ℕ) × (MembersRule s j from count r.item r.next × Q r b))
  members_then {B} k Q exact =
      exact_iff (bind_exact (λ (r : Found (List Member) Run). members_at s j item from count ≡ answer r) (λ (r : Found (List Member) Run). Q (by_place r)) (record { sound = λ r e. e; complete = λ r e. e }) (λ r. exact (by_place r)))
      (λ b h. (by_place h.0, (members_sound h.0 h.1.0, h.1.1)))
      (λ b h. let x = members_read h.1.0 in (record { item = h.0.item; next = x.0 }, (x.1.0, subst (λ (q : ℕ). Q (record { item = h.0.item; next = q }) b) (sym x.1.1) h.1.1)))

  pub members_exact : Exact (members_at s j item from count >>= λ (r : Found (List Member) Run). answer (by_place r)) (λ (r : Found (List Member) ℕ). MembersRule s j from count r.item r.next)
  members_exact =
      exact_iff (members_then answer (λ (r b : Found (List Member) ℕ). r ≡ b) answer_exact)
      (λ b h. subst (λ (r : Found (List Member) ℕ). MembersRule s j from count r.item r.next) h.1.1 h.1.0)
      (λ b h. (b, (h, refl)))

-- "a later difference of 0 is 15": in a list that obeys the rule none is 0
added_more : {l : List StoredMember} {k : ℕ} {t : StoredMember} → At l k t → added_up (take (suc k) l) ≡ added_up (take k l) + t.difference
unfolding added_up
added_more here = omega arith
added_more (there m) = let z = added_more m in omega arith

pub later_difference : (s : List ℕ) (j : MemberJudge) {p count q : ℕ} {l : List Member} (h : MembersRule s j p count l q) {k : ℕ} {t : StoredMember} → At h.stored (suc k) t → 0 < t.difference
later_difference s j {l = l} h {k} {t} m =
    let long = h.members.count in
    let size = row_length h.row in
    let low = at_below m in
    let a = at_some l k (omega arith) in
    let b = at_some l (suc k) (omega arith) in
    let x = (h.members.each a.1).index in
    let y = (h.members.each b.1).index in
    let less = h.rises.rises a.1 b.1 in
    let more = added_more m in
    omega arith

-- ---- bounds: a list ends within the slice, where it begins there
pub uleb_on : (s : List ℕ) {p v q : ℕ} → Uleb s p (record { item = v; next = q }) → (p < q) × (q ≤ length s)
uleb_on s {p} h = let z = uleb_span s 0 p ((uleb_exact s 0 p).complete _ h) in (z.after_place, z.inside)

code_on : (s : List ℕ) (b : Bool) (start p c q : ℕ) → CodeOffsetRule s b start p c q → p ≤ length s → (p ≤ q) × (q ≤ length s)
code_on s true start p c q h i = let z = uleb_on s h.0 in (omega arith, z.1)
code_on s false start p c q h i = let z = h.1 in (omega arith, omega arith)

row_on : (s : List ℕ) (j : MemberJudge) {n p q : ℕ} {l : List StoredMember} → Row (StoredMemberRule s j) n p l q → p ≤ length s → (p ≤ q) × (q ≤ length s)
row_on s j empty i = (omega arith, i)
row_on s j (first {a = m} {t = v} h r) i =
    let a = uleb_on s h.difference in
    let b = uleb_on s h.flags in
    let c = code_on s j.code j.start h.after_flags m.code v h.code b.1 in
    let rest = row_on s j r c.1 in
    (omega arith, rest.1)

pub members_on : (s : List ℕ) (j : MemberJudge) {p n q : ℕ} {l : List Member} → MembersRule s j p n l q → p ≤ length s → (p ≤ q) × (q ≤ length s)
members_on s j h i = row_on s j h.row i
