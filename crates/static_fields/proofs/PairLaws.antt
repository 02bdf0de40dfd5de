-- What the proofs of the functions of pairs.rt cite: class data and values that were read whole are read once more.
-- Assumes nothing.
use Prim.Native.Nat.{ℕ, ◌<◌, ◌≤◌}
use mathlib.Core.Path.{◌≡◌, refl, ap, sym, ◌∙◌}
use mathlib.Core.Bool.{Bool, true, false, cond}
use mathlib.Core.Option.{Option, some}
use mathlib.Core.List.{List, []}
use lib.ListN.{length, get_or}
use lib.Dec.{ltb, leb}
use borrow.Author.Rules.{rules}
use borrow.Author.Tests.{lt-ltb, le-leb, lt-leb, ltb-true}
use native.Mathlib.Omega.{arith}
use Rattle.refusal.specs.Refusals.{not_there, too_many_values}
use Rattle.refusal.specs.declared.Refusal.{Refusal}
use Rattle.refusal.specs.Outcome.{Outcome, answer, refused, ◌>>=◌, given, present}
use Rattle.refusal.specs.Rows.{Found}
use Rattle.refusal.proofs.Laws.{calls, tests, on_ok, on_err, bind_answer, bind_refused, refused_by, passes, fails, present_there}
use Rattle.refusal.proofs.Exact.{answers_equal}
use Rattle.refusal.proofs.Kept.{part_answer, part_refused}
use Rattle.refusal.proofs.Choose.{get_d_at}
use Rattle.refusal.proofs.Rows.{bind_assoc}
use Rattle.frame.specs.declared.Frame.{Frame}
use Rattle.header.specs.declared.Header.{Header}
use Rattle.header.specs.Header.{up_to_end, plain_frame}
use Rattle.class_members.specs.declared.Member.{Member}
use Rattle.class_members.specs.Members.{nobody}
use Rattle.class_data.specs.declared.Counts.{Counts}
use Rattle.class_data.specs.Data.{ClassData, class_data_at, counts, extent_at, member_of_list}
use Rattle.encoded_value.specs.Tree.{Tree}
use Rattle.encoded_value.specs.Depth.{deepest}
use Rattle.encoded_value.specs.Readings.{array_at}
use Rattle.decoded_value.specs.Shown.{Shown, shown}
use Rattle.value_bodies.specs.Bodies.{pick, array_count, array_value}
use Rattle.value_bodies.proofs.Picks.{pick_there, pick_none}
use Rattle.value_readers.specs.Opening.{walk_in}
use Rattle.value_readers.specs.Statics.{values_in, static_value_in}
use Rattle.static_fields.specs.Pairing.{StaticField, with_value, default_of, paired, class_place, type_text, fields_in, stored_in, field_under}
use Rattle.static_fields.specs.Stages.{as_some, valued, field_some, pair_of}

-- ---- a value that was found, as field m's
pub valued_refused : (m : Member) (stored : Bool) {o : Outcome Shown} {r : Refusal} → refused r ≡ o → refused r ≡ valued m stored o
unfolding valued
valued_refused m stored e = on_err as_some (on_err (with_value m stored) e)

pub valued_got : (m : Member) {stored told : Bool} {o : Outcome Shown} {v : Shown} → told ≡ stored → answer v ≡ o
    → answer (some (record { field = m.index; flags = m.flags; stored = told; value = v })) ≡ valued m stored o
unfolding valued
valued_got m {stored} {v = v} t e = on_ok as_some (on_ok (with_value m stored) e refl) (λ i. answer (some (record { field = m.index; flags = m.flags; stored = t i; value = v })))

-- ---- a member that was read in the file up to the data section's end, s, against the file's frame, r
module _ (f : List ℕ) (h : Header) (p list n : ℕ) {s : List ℕ} {r : Frame} {B : Type 0} (k : Member → Outcome B) (e : s ≡ up_to_end f h) (g : r ≡ plain_frame h) where
  pub member_again : {a : Member} {y : Outcome B} → answer a ≡ member_of_list s r p list n → y ≡ k a → y ≡ (member_of_list (up_to_end f h) (plain_frame h) p list n >>= k)
  member_again q w = on_ok k (q ∙ (λ i. member_of_list (e i) (g i) p list n)) w

  pub no_member_again : {z : Refusal} → refused z ≡ member_of_list s r p list n → refused z ≡ (member_of_list (up_to_end f h) (plain_frame h) p list n >>= k)
  no_member_again q = on_err k (q ∙ (λ i. member_of_list (e i) (g i) p list n))

-- ---- class data and values that were read
module _ (f : List ℕ) (h : Header) (at : ℕ) where
  -- class data, and in it member k
  fields_are : 0 < at → {d : ClassData} → class_data_at (up_to_end f h) (plain_frame h) at ≡ answer d → fields_in f h at ≡ answer d.statics
  unfolding fields_in
  fields_are l e = ap (λ (b : Bool). cond b (class_data_at (up_to_end f h) (plain_frame h) at >>= λ (d : ClassData). answer d.statics) (answer [])) (lt-ltb 0 at l) ∙ bind_answer _ e

  no_fields : 0 < at → {r : Refusal} → class_data_at (up_to_end f h) (plain_frame h) at ≡ refused r → fields_in f h at ≡ refused r
  unfolding fields_in
  no_fields l e = ap (λ (b : Bool). cond b (class_data_at (up_to_end f h) (plain_frame h) at >>= λ (d : ClassData). answer d.statics) (answer [])) (lt-ltb 0 at l) ∙ bind_refused _ e

  member_is : {d : ClassData} (k : ℕ) → class_data_at (up_to_end f h) (plain_frame h) at ≡ answer d → k < length d.statics
      → member_of_list (up_to_end f h) (plain_frame h) at 0 k ≡ answer (get_or d.statics k nobody)
  unfolding member_of_list
  member_is {d} k e l = bind_answer _ e ∙ sym (passes not_there (lt-ltb k (length d.statics) l) refl)

-- values: how many there are, and one of them
module _ (f : List ℕ) (h : Header) (handles at : ℕ) where
  go_stored : (b : Bool) {n : ℕ} → cond b (array_count (up_to_end f h) (walk_in h handles at) at) (answer 0) ≡ answer n
      → (vs : List Tree) × ((cond b (array_at (up_to_end f h) (walk_in h handles at) deepest at >>= λ (r : Found (List Tree) ℕ). answer r.item) (answer []) ≡ answer vs)
      × ((length vs ≡ n) × ((k : ℕ) → k < n → cond b (array_value (up_to_end f h) (walk_in h handles at) at k) (refused not_there) ≡ (pick k vs >>= λ (v : Tree). answer (shown v)))))
  unfolding array_count array_value
  go_stored true e =
      let a = part_answer (λ (r : Found (List Tree) ℕ). length r.item) (array_at (up_to_end f h) (walk_in h handles at) deepest at) e in
      (a.0.item, (bind_answer _ a.1.0, (a.1.1, λ k l. bind_answer _ a.1.0)))
  go_stored false {n} e = ([], (refl, (answers_equal e, λ k l. absurd (let z = answers_equal e in omega arith))))

  stored_are : {n : ℕ} → values_in f h handles at ≡ answer n
      → (vs : List Tree) × ((stored_in f h handles at ≡ answer vs) × ((length vs ≡ n) × ((k : ℕ) → k < n → static_value_in f h handles at k ≡ (pick k vs >>= λ (v : Tree). answer (shown v)))))
  unfolding values_in stored_in static_value_in
  stored_are e = go_stored (ltb 0 at) e

  not_stored : {r : Refusal} → values_in f h handles at ≡ refused r → stored_in f h handles at ≡ refused r
  unfolding values_in stored_in array_count
  not_stored {r} e = go (ltb 0 at) e
    where
      go : (b : Bool) → cond b (array_at (up_to_end f h) (walk_in h handles at) deepest at >>= λ (a : Found (List Tree) ℕ). answer (length a.item)) (answer 0) ≡ refused r
          → cond b (array_at (up_to_end f h) (walk_in h handles at) deepest at >>= λ (a : Found (List Tree) ℕ). answer a.item) (answer []) ≡ refused r
      go true q = bind_refused _ (part_refused (λ (a : Found (List Tree) ℕ). length a.item) (array_at (up_to_end f h) (walk_in h handles at) deepest at) q)
      go false q = cc

-- the pair by a value that was found, o, and by the list
pair_is : (text_of : ℕ → Outcome (List ℕ)) (k : ℕ) (m : Member) (vs : List Tree) {n : ℕ} {o : Outcome Shown} → length vs ≡ n → (k < n → o ≡ (pick k vs >>= λ (v : Tree). answer (shown v)))
    → cond (ltb k n) (valued m true o) (valued m false (default_of text_of m.index)) ≡ (paired text_of k m vs >>= as_some)
unfolding paired valued ◌>>=◌
pair_is text_of k m vs {n} {o} e q = go (ltb k n) refl ∙ (λ i. cond (ltb k (sym e i)) (pick k vs >>= λ (v : Tree). with_value m true (shown v)) (default_of text_of m.index >>= with_value m false) >>= as_some)
  where
    go : (b : Bool) → ltb k n ≡ b
        → cond b (o >>= with_value m true >>= as_some) (default_of text_of m.index >>= with_value m false >>= as_some)
        ≡ (cond b (pick k vs >>= λ (v : Tree). with_value m true (shown v)) (default_of text_of m.index >>= with_value m false) >>= as_some)
    go true w = ap (λ (z : Outcome StaticField). z >>= as_some) (ap (λ (z : Outcome Shown). z >>= with_value m true) (q (ltb-true k n w)) ∙ bind_assoc (pick k vs) (λ (v : Tree). answer (shown v)) (with_value m true))
    go false w = refl

-- ---- the ways through `field_some`
module _ (f : List ℕ) (h : Header) (handles c k at values : ℕ) (there : 0 < at) {s : List ℕ} {r : Frame} (e : s ≡ up_to_end f h) (g : r ≡ plain_frame h) where
  framed_read : {o : Outcome (Found Counts ℕ)} → o ≡ extent_at s r at → o ≡ extent_at (up_to_end f h) (plain_frame h) at
  framed_read q = q ∙ (λ i. extent_at (e i) (g i) at)

  pub some_no_data : {z : Refusal} → refused z ≡ extent_at s r at → refused z ≡ field_some f h handles c k at values
  unfolding field_some field_under extent_at
  some_no_data q = sym (bind_refused _ (bind_refused _ (no_fields f h at there (part_refused (λ (d : ClassData). record { item = counts d; next = d.end }) (class_data_at (up_to_end f h) (plain_frame h) at) (sym (framed_read q))))))

  module _ {cs : Counts} {end : ℕ} (q : answer (record { item = cs; next = end }) ≡ extent_at s r at) where
    found : (d : ClassData) × ((class_data_at (up_to_end f h) (plain_frame h) at ≡ answer d) × (◌≡◌ {A = Found Counts ℕ} (record { item = counts d; next = d.end }) (record { item = cs; next = end })))
    unfolding extent_at
    found = part_answer (λ (d : ClassData). record { item = counts d; next = d.end }) (class_data_at (up_to_end f h) (plain_frame h) at) (sym (framed_read q))

    long : length found.0.statics ≡ cs.statics
    long = ap (λ (y : Found Counts ℕ). y.item.statics) found.1.1

    pub some_past : {z : Refusal} → z ≡ not_there → cs.statics ≤ k → refused z ≡ field_some f h handles c k at values
    unfolding field_some field_under
    some_past made l =
        let n = long in
        refused_by made ∙ sym (bind_refused _ (bind_answer _ (fields_are f h at there found.1.0) ∙ bind_refused _ (pick_none found.0.statics k (omega arith))))

    module _ (l : k < cs.statics) where
      picked : pick k found.0.statics ≡ answer (get_or found.0.statics k nobody)
      picked = let n = long in pick_there (get_d_at found.0.statics k nobody (omega arith))

      pub some_no_values : {z : Refusal} → refused z ≡ values_in f h handles values → refused z ≡ field_some f h handles c k at values
      unfolding field_some field_under
      some_no_values v = sym (bind_refused _ (bind_answer _ (fields_are f h at there found.1.0) ∙ bind_answer _ picked ∙ bind_refused _ (not_stored f h handles values (sym v))))

      module _ {n : ℕ} (v : answer n ≡ values_in f h handles values) where
        kept : (vs : List Tree) × ((stored_in f h handles values ≡ answer vs) × ((length vs ≡ n) × ((k : ℕ) → k < n → static_value_in f h handles values k ≡ (pick k vs >>= λ (v : Tree). answer (shown v)))))
        kept = stored_are f h handles values (sym v)

        -- 21, and then the pair
        opened : field_under f h handles c k at values
            ≡ given (leb (length kept.0) (length found.0.statics)) (too_many_values (class_place h c)) (paired (type_text f h) k (get_or found.0.statics k nobody) kept.0)
        unfolding field_under
        opened = bind_answer _ (fields_are f h at there found.1.0) ∙ bind_answer _ picked ∙ bind_answer _ kept.1.0

        pub some_many : {place : ℕ} {z : Refusal} → cs.statics < n → place ≡ class_place h c → z ≡ too_many_values place → refused z ≡ field_some f h handles c k at values
        unfolding field_some
        some_many less is made =
            let a = long in
            let b = kept.1.1.0 in
            sym (bind_refused as_some (opened ∙ sym (fails _ refl (lt-leb (length kept.0) (length found.0.statics) (omega arith)))) ∙ ap (λ (p : ℕ). refused (too_many_values p)) (sym is) ∙ sym (refused_by made))

        again : pair_of f h handles at values k n ≡ (paired (type_text f h) k (get_or found.0.statics k nobody) kept.0 >>= as_some)
        unfolding pair_of
        again =
            let a = long in
            bind_answer _ (member_is f h at k found.1.0 (omega arith)) ∙ pair_is (type_text f h) k (get_or found.0.statics k nobody) kept.0 kept.1.1.0 (kept.1.1.1 k)

        pub some_pair : {z : Outcome (Option StaticField)} → n ≤ cs.statics → z ≡ pair_of f h handles at values k n → z ≡ field_some f h handles c k at values
        unfolding field_some
        some_pair few w =
            let a = long in
            let b = kept.1.1.0 in
            w ∙ again
            ∙ ap (λ (o : Outcome StaticField). o >>= as_some) (sym (opened ∙ sym (passes (too_many_values (class_place h c)) (le-leb (length kept.0) (length found.0.statics) (omega arith)) refl)))

-- ---- a class without class data has none
pub below_some : (f : List ℕ) (h : Header) (handles c k at values : ℕ) {y : Outcome (Option StaticField)} → 0 < at → y ≡ field_some f h handles c k at values → y ≡ present at (field_under f h handles c k at values)
unfolding field_some
below_some f h handles c k at values l e = present_there (field_under f h handles c k at values) l e

pub ruleset pair_laws = (member_again, no_member_again, valued_refused, valued_got, calls, tests, rules)

pub ruleset some_laws = (some_no_data, some_past, some_no_values, some_many, some_pair, calls, rules)

pub ruleset below_laws = (below_some, tests, rules)

pub ruleset laws = (calls, tests, rules)
