-- What the proofs of the going over cite: the stages of a body, of class data and of a class, and the loop over methods.
-- Assumes nothing.
use Prim.Native.Nat.{ℕ, suc, ◌+◌, ◌*◌, ◌<◌, ◌≤◌}
use mathlib.Core.Path.{◌≡◌, refl, ap, sym, ◌∙◌}
use mathlib.Core.Bool.{Bool, true, false}
use mathlib.Core.Option.{Option}
use mathlib.Core.List.{List}
use lib.ListN.{length}
use lib.Dec.{leb}
use borrow.Author.Rules.{rules}
use borrow.Author.Tests.{lt-ltb, le-ltb, le-leb, lt-leb}
use native.Mathlib.Omega.{arith}
use Rattle.refusal.specs.Refusals.{too_many_values}
use Rattle.refusal.specs.declared.Refusal.{Refusal}
use Rattle.refusal.specs.Outcome.{Outcome, answer, refused, ◌>>=◌, given, present, accepted}
use Rattle.refusal.specs.Rows.{Found, past, collect, through, with_below}
use Rattle.refusal.proofs.Laws.{bind_answer, bind_refused, picks, leaves, passes, fails, tests, calls}
use Rattle.refusal.proofs.Rows.{bind_assoc}
use Rattle.refusal.proofs.Kept.{kept, accepted_answer, accepted_refused, kept_part, kept_on, made_kept}
use Rattle.refusal.proofs.Through.{gone_over}
use Rattle.refusal.proofs.Loops.{Gather, gather_first, gather_next, gather_stop, gather_done}
use Rattle.refusal.specs.Exact.{Present, absent, found_there}
use Rattle.leb128.specs.Leb.{uleb_at}
use Rattle.leb128.proofs.Exactly.{uleb_exact}
use Rattle.frame.specs.declared.Frame.{Frame}
use Rattle.header.specs.declared.Header.{Header}
use Rattle.header.specs.Header.{up_to_end, frame_of, plain_frame}
use Rattle.class_ids.specs.declared.Class.{Class}
use Rattle.class_ids.specs.Classes.{class_at}
use Rattle.class_members.specs.declared.Member.{Member}
use Rattle.class_data.specs.declared.Methods.{Methods}
use Rattle.class_members.specs.Members.{Run, member_at, step_at, begin, members_at}
use Rattle.class_data.specs.Data.{ClassData, class_data_at, methods_at, methods_judge}
use Rattle.class_members.specs.Rules.{MembersRule}
use Rattle.class_members.proofs.Exactly.{members_read}
use Rattle.class_data.proofs.Exactly.{data_exact}
use Rattle.code_item.specs.declared.Outline.{Outline}
use Rattle.code_bodies.specs.Code.{code_at}
use Rattle.code_item.specs.Code.{outline, outline_at}
use Rattle.debug_info.specs.Debug.{debug_at, extent_at}
use Rattle.value_heads.specs.declared.Walk.{Walk}
use Rattle.value_heads.specs.Kinds.{walk_of}
use Rattle.encoded_value.specs.Tree.{Tree}
use Rattle.encoded_value.specs.Depth.{deepest}
use Rattle.encoded_value.specs.Rules.{ValueRow, no_value, next_value, ArrayBody, array_body}
use Rattle.encoded_value.specs.Readings.{array_at, past_array}
use Rattle.annotation_walk.specs.Below.{directory_below}
use Rattle.type_list.specs.Below.{types_below}
use Rattle.class_walk.specs.Methods.{Body, DataBelow, body_at, method_below, data_below, debug_accepted, methods_pass, both_pass}
use Rattle.class_walk.specs.Classes.{ClassBelow, static_count, value_count, fitting, number_in, first_number, values_at, annotations_at, data_at, statics_at, below, class_below, below_pass, fit_pass}
use Rattle.class_walk.specs.Rules.{DataBelowRule, ValuesRule}
use Rattle.class_walk.proofs.Exactly.{led_exact}

-- ---- a body
pub debug_by : (s : List ℕ) (strings item : ℕ) {y : Outcome Unit} → y ≡ (extent_at s strings item >>= accepted) → y ≡ (debug_at s strings item >>= accepted)
unfolding extent_at
debug_by s strings item e = e ∙ made_kept _ (debug_at s strings item)

module _ (s : List ℕ) (f : Frame) where
  pub body_by : (item : ℕ) {y : Outcome Unit} → y ≡ (outline_at s f item >>= λ (o : Outline). debug_accepted s f.strings o.head.debug) → y ≡ (body_at s f item >>= accepted)
  unfolding body_at outline_at
  body_by item e = e ∙ sym (kept_part (code_at s f item) outline _ (λ (o : Outline). debug_accepted s f.strings o.head.debug) (λ c t. made_kept _ (present c.head.debug (debug_at s f.strings c.head.debug))))

-- ---- the loop over methods: p is the next place, base the last method's index
abbrev going : List ℕ → Frame → ℕ → Run → Outcome (Found (Option Body) Run)
going s f item = with_below (step_at s (methods_judge f) item) (method_below s f)

abbrev run_of : ℕ → ℕ → Bool → Run
run_of p base later = record { place = p; base = base; later = later }

pub record Going (s : List ℕ) (f : Frame) (item from count k p base : ℕ) (later : Bool) : Type 0 where
  gather : Gather (going s f item) count (begin from) k (run_of p base later)

pub going_first : (s : List ℕ) (f : Frame) (item from count : ℕ) → Going s f item from count 0 from 0 false
going_first s f item from count = record { gather = gather_first (going s f item) count (begin from) }

module _ {s : List ℕ} {f : Frame} {item from count k p base : ℕ} {later : Bool} (h : Going s f item from count k p base later) where
  pub going_stop : {r : Refusal} → k < count → refused r ≡ member_at s (methods_judge f) item base later p → refused r ≡ methods_pass s f item from count
  unfolding methods_pass with_below step_at
  going_stop l e = sym (bind_refused _ (sym (gather_stop h.gather l (sym (bind_refused past (bind_refused _ (bind_refused _ (sym e))))))))

  module _ {m : Member} {n : ℕ} (l : k < count) (e : answer (record { item = m; next = n }) ≡ member_at s (methods_judge f) item base later p) where
    step_found : {o : Outcome (Option Body)} → method_below s f m ≡ o → going s f item (run_of p base later) ≡ (o >>= λ (b : Option Body). answer (record { item = b; next = run_of n m.index true }))
    unfolding with_below step_at
    step_found {o} q =
        bind_answer (λ (r : Found Member Run). method_below s f r.item >>= λ (b : Option Body). answer (record { item = b; next = r.next })) (bind_answer _ (sym e))
        ∙ ap (λ (z : Outcome (Option Body)). z >>= λ (b : Option Body). answer (record { item = b; next = run_of n m.index true })) q

    pub going_next : answer tt ≡ (present m.code (body_at s f m.code) >>= accepted) → Going s f item from count (k + 1) n m.index true
    unfolding method_below
    going_next g =
        let found = accepted_answer (present m.code (body_at s f m.code)) g in
        record { gather = gather_next h.gather l (sym (bind_answer past (step_found found.1 ∙ bind_answer _ refl))) }

    pub going_fail : {r : Refusal} → refused r ≡ (present m.code (body_at s f m.code) >>= accepted) → refused r ≡ methods_pass s f item from count
    unfolding method_below methods_pass
    going_fail g =
        let broken = accepted_refused (present m.code (body_at s f m.code)) g in
        sym (bind_refused _ (sym (gather_stop h.gather l (sym (bind_refused past (step_found broken ∙ bind_refused _ refl))))))

pub going_done : {s : List ℕ} {f : Frame} {item from count k p base : ℕ} {later : Bool} → Going s f item from count k p base later → count ≤ k → answer p ≡ methods_pass s f item from count
unfolding methods_pass
going_done h l = let r = gather_done h.gather l in sym (bind_answer _ (sym r.1.0) ∙ ap (λ (t : Run). answer t.place) r.1.1)

-- ---- class data: what is gone over a second time is what was read
module _ (s : List ℕ) (f : Frame) (item : ℕ) where
  abbrev to : ℕ → List (Option Body) → Outcome ℕ
  to q bs = answer q

  passed_again : {p n q : ℕ} {l : List Member} → MembersRule s (methods_judge f) p n l q → methods_pass s f item p (length l) ≡ (through (method_below s f) l >>= to q)
  unfolding methods_pass members_at
  passed_again {p} {n} {q} {l} h =
      let read = members_read s (methods_judge f) item p n h in
      ap (λ (k : ℕ). collect k (going s f item) (begin p) >>= λ (r : Found (List (Option Body)) Run). answer r.next.place) h.members.count
      ∙ ap (λ (o : Outcome (Found (List (Option Body)) Run)). o >>= λ (r : Found (List (Option Body)) Run). answer r.next.place) (gone_over (step_at s (methods_judge f) item) (method_below s f) n (begin p) (record { item = l; next = read.0 }) read.1.0)
      ∙ bind_assoc (through (method_below s f) l) _ _
      ∙ (λ i. through (method_below s f) l >>= λ (bs : List (Option Body)). (bind_answer {o = answer (record { item = bs; next = read.0 })} (λ (r : Found (List (Option Body)) Run). answer r.next.place) refl ∙ ap answer read.1.1) i)

  abbrev methods_of : ClassData → Methods
  methods_of d = record { directs = length d.directs; virtuals = length d.virtuals; from = d.methods }

  abbrev made : ClassData → List (Option Body) → List (Option Body) → Outcome DataBelow
  made d x y = answer (record { members = d; directs = x; virtuals = y })

  both_of : (d : ClassData) → class_data_at s f item ≡ answer d
      → ((through (method_below s f) d.directs >>= λ (x : List (Option Body)). through (method_below s f) d.virtuals >>= made d x) >>= accepted)
      ≡ both_pass s f item (methods_of d)
  unfolding both_pass ◌>>=◌
  both_of d e =
      let rule = (data_exact s f item).sound d e in
      let one = passed_again rule.directs in
      let two = passed_again rule.virtuals in
      sym (ap (λ (o : Outcome ℕ). o >>= λ (p : ℕ). methods_pass s f item p (length d.virtuals) >>= λ (q : ℕ). answer tt) one
      ∙ bind_assoc (through (method_below s f) d.directs) _ _
      ∙ (λ i. through (method_below s f) d.directs >>= λ (x : List (Option Body)). (ap (λ (o : Outcome ℕ). o >>= λ (q : ℕ). answer tt) two ∙ ends _ x) i)
      ∙ sym (bind_assoc (through (method_below s f) d.directs) _ accepted))
    where
      ends : (q : ℕ) (x : List (Option Body))
          → ((through (method_below s f) d.virtuals >>= to q) >>= λ (q : ℕ). answer tt)
          ≡ ((through (method_below s f) d.virtuals >>= made d x) >>= accepted)
      ends q x = made_kept _ (through (method_below s f) d.virtuals) ∙ sym (made_kept _ (through (method_below s f) d.virtuals))

  pub data_by : {y : Outcome Unit} → y ≡ (methods_at s f item >>= λ (m : Methods). both_pass s f item m) → y ≡ (data_below s f item >>= accepted)
  unfolding data_below methods_at
  data_by e = e ∙ sym (kept_part (class_data_at s f item) methods_of _ (λ (m : Methods). both_pass s f item m) both_of)

-- ---- directories and static values that may be absent
module _ (f : List ℕ) (h : Header) (handles at : ℕ) {s : List ℕ} (e : s ≡ up_to_end f h) where
  pub directory_framed : {r : Frame} {y : Outcome Unit} → r ≡ frame_of h handles → y ≡ (directory_below s r at >>= accepted) → y ≡ (directory_below (up_to_end f h) (frame_of h handles) at >>= accepted)
  directory_framed g q = q ∙ λ i. directory_below (e i) (g i) at >>= accepted

  pub data_framed : {r : Frame} {y : Outcome Unit} → r ≡ plain_frame h → y ≡ (data_below s r at >>= accepted) → y ≡ (data_below (up_to_end f h) (plain_frame h) at >>= accepted)
  data_framed g q = q ∙ λ i. data_below (e i) (g i) at >>= accepted

  pub values_framed : {r : Frame} {w : Walk} {y : Outcome Unit} → r ≡ frame_of h handles → w ≡ walk_of r at → y ≡ (past_array s w deepest at >>= accepted) → y ≡ (values_at (up_to_end f h) (walk_of (frame_of h handles) at) at >>= accepted)
  unfolding values_at
  values_framed g w q =
      q ∙ (λ i. past_array (e i) ((w ∙ ap (λ (x : Frame). walk_of x at) g) i) deepest at >>= accepted)
      ∙ made_kept _ (array_at (up_to_end f h) (walk_of (frame_of h handles) at) deepest at)
      ∙ sym (made_kept _ (array_at (up_to_end f h) (walk_of (frame_of h handles) at) deepest at))

-- the number that an item begins with, as the code reads it
module _ (s : List ℕ) (at : ℕ) where
  pub first_absent : at ≤ 0 → 0 ≡ first_number s at
  unfolding first_number
  first_absent l = leaves _ (le-ltb 0 at l) refl

  pub first_got : {v n : ℕ} → 0 < at → answer (record { item = v; next = n }) ≡ uleb_at s at at → v ≡ first_number s at
  unfolding first_number
  first_got l e = picks _ (lt-ltb 0 at l) (ap number_in e)

  pub first_refused : {r : Refusal} → 0 < at → refused r ≡ uleb_at s at at → 0 ≡ first_number s at
  unfolding first_number
  first_refused l e = picks _ (lt-ltb 0 at l) (ap number_in e)

-- the size that an array begins with is how many values it has
row_size : {s : List ℕ} {w : Walk} {n p q : ℕ} {l : List Tree} → ValueRow s w n p l q → n ≡ length l
row_size no_value = refl
row_size (next_value v r) = ap suc (row_size r)

array_size : {s : List ℕ} {w : Walk} {p q : ℕ} {l : List Tree} → ArrayBody s w p l q → number_in (uleb_at s p p) ≡ length l
array_size {s} {w} {p} (array_body {size = size} u r) = ap number_in ((uleb_exact s p p).complete size u) ∙ row_size r

-- ---- a class
module _ (f : List ℕ) (h : Header) (handles : ℕ) where
  below_kept : (c : Class) → (below f h handles c >>= accepted) ≡ below_pass f h handles c.interfaces c.directory c.«data» c.values
  unfolding below below_pass
  below_kept c =
      kept_on (types_below f h c.interfaces) _ _ _ refl (λ i t.
      kept_on (annotations_at f h handles c.directory) _ _ _ refl (λ a t.
      kept_on (data_at f h c.«data») _ _ _ refl (λ d t.
      made_kept _ (statics_at f h handles c.values))))

  -- ---- no more static values than static fields: class data and an array begin with these counts
  fields_first : (at : ℕ) {d : Option DataBelow} → Present (DataBelowRule (up_to_end f h) (plain_frame h) at) at d → first_number (up_to_end f h) at ≡ static_count d
  unfolding first_number
  fields_first at (absent e) = sym (first_absent (up_to_end f h) at (omega arith))
  fields_first at (found_there {a = d} l r) =
      sym (picks _ (lt-ltb 0 at l) (r.members.statics.members.count ∙ sym (ap number_in ((uleb_exact (up_to_end f h) at at).complete _ r.members.counted.statics))))

  values_first : (at : ℕ) {l : Option (List Tree)} → Present (ValuesRule (up_to_end f h) (walk_of (frame_of h handles) at) at) at l → first_number (up_to_end f h) at ≡ value_count l
  unfolding first_number
  values_first at (absent e) = sym (first_absent (up_to_end f h) at (omega arith))
  values_first at (found_there {a = l} p r) = sym (picks _ (lt-ltb 0 at p) (sym (array_size r.body.body)))

  fit_kept : (place : ℕ) (c : Class) (b : ClassBelow) → below f h handles c ≡ answer b → (fitting place b >>= accepted) ≡ fit_pass f h place c.«data» c.values
  unfolding fitting fit_pass given ◌>>=◌
  fit_kept place c b e =
      let led = (led_exact f h handles c).sound b e in
      go (leb (value_count b.values) (static_count b.members))
      ∙ λ i. given (leb (sym (values_first c.values led.values) i) (sym (fields_first c.«data» led.members) i)) (too_many_values place) (answer tt)
    where
      go : (t : Bool) → (given t (too_many_values place) (answer b) >>= accepted) ≡ given t (too_many_values place) (answer tt)
      go true = refl
      go false = refl

  pub class_by : (n : ℕ) {r : Frame} {y : Outcome Unit} → r ≡ plain_frame h
      → y ≡ (class_at f r h.end h.classes.offset n >>= λ (c : Class). below_pass f h handles c.interfaces c.directory c.«data» c.values >>= λ (u : Unit). fit_pass f h (h.classes.offset + 32 * n) c.«data» c.values)
      → y ≡ (class_below f h handles n >>= accepted)
  unfolding class_below
  class_by n {r} g e =
      e ∙ (λ i. class_at f (g i) h.end h.classes.offset n >>= λ (c : Class). sym (kept_on (below f h handles c) _ (fitting (h.classes.offset + 32 * n)) _ (below_kept c) (fit_kept (h.classes.offset + 32 * n) c)) i)
      ∙ sym (bind_assoc (class_at f (plain_frame h) h.end h.classes.offset n) _ accepted)

  -- the counts as the code reads them
  counted_by : (members values : ℕ) {s : List ℕ} {m n : ℕ} → s ≡ up_to_end f h → n ≡ first_number s values → m ≡ first_number s members
      → leb (first_number (up_to_end f h) values) (first_number (up_to_end f h) members) ≡ leb n m
  counted_by members values e v w = λ i. leb ((sym (ap (λ (x : List ℕ). first_number x values) e) ∙ sym v) i) ((sym (ap (λ (x : List ℕ). first_number x members) e) ∙ sym w) i)

  pub fit_allowed : (place members values : ℕ) {s : List ℕ} {m n : ℕ} → s ≡ up_to_end f h → n ≡ first_number s values → m ≡ first_number s members → n ≤ m → answer tt ≡ fit_pass f h place members values
  unfolding fit_pass
  fit_allowed place members values {s} {m} {n} e v w l = passes _ (counted_by members values e v w ∙ le-leb n m l) refl

  pub fit_refused : (place members values : ℕ) {s : List ℕ} {m n : ℕ} {q : Refusal} → s ≡ up_to_end f h → n ≡ first_number s values → m ≡ first_number s members → m < n → q ≡ too_many_values place → refused q ≡ fit_pass f h place members values
  unfolding fit_pass
  fit_refused place members values {s} {m} {n} {q} e v w l z = fails _ z (counted_by members values e v w ∙ lt-leb n m l)

pub ruleset body_laws = (debug_by, body_by, kept, calls, tests, rules)

pub ruleset loop_laws = (going_first, going_next, going_stop, going_fail, going_done, rules)

pub ruleset data_laws = (data_by, calls, rules)

pub ruleset framed = (directory_framed, data_framed, values_framed, kept, calls, rules)

pub ruleset first_laws = (first_absent, first_got, first_refused, rules)

pub ruleset fit_laws = (fit_allowed, fit_refused, rules)

pub ruleset laws = (class_by, kept, calls, rules)
