-- On a file of which a reading is known, the readers of static fields with their values answer what the reading says.
-- Assumes nothing.
use Prim.Native.Nat.{ℕ, zero, suc, ◌+◌, ◌<◌, ◌≤◌}
use mathlib.Core.Path.{◌≡◌, refl, ap, sym, subst, ◌∙◌}
use mathlib.Core.Logic.{◌↔◌, ◌⊎◌, inl, inr}
use mathlib.Core.Bool.{Bool, true, false, cond}
use mathlib.Core.Option.{Option, none, some}
use mathlib.Core.List.{List, [], ◌∷◌}
use lib.ListN.{length}
use lib.Dec.{ltb, leb}
use borrow.Author.Tests.{le-leb, lt-ltb, le-ltb}
use native.Mathlib.Omega.{arith}
use Rattle.refusal.specs.Refusals.{too_many_values}
use Rattle.refusal.specs.Outcome.{Outcome, answer, refused, ◌>>=◌, given, present}
use Rattle.refusal.specs.Exact.{Present, absent, found_there, At, here, there}
use Rattle.refusal.proofs.Laws.{bind_answer, passes, picks, leaves, absent_there, present_there}
use Rattle.refusal.proofs.Exact.{never, answers_equal, or_not, below}
use Rattle.refusal.proofs.Each.{at_below, at_some}
use Rattle.header.specs.Header.{up_to_end, frame_of, plain_frame}
use Rattle.value_heads.specs.Kinds.{walk_of}
use Rattle.text.specs.Text.{Text}
use Rattle.ids.specs.declared.MemberId.{MemberId}
use Rattle.class_members.specs.declared.Member.{Member}
use Rattle.encoded_value.specs.Tree.{Tree}
use Rattle.decoded_value.specs.Shown.{Shown, shown}
use Rattle.value_bodies.specs.Bodies.{pick}
use Rattle.value_bodies.proofs.Picks.{pick_there}
use Rattle.static_kinds.specs.Kinds.{default, fits}
use Rattle.static_kinds.proofs.Exactly.{fits_decides}
use Rattle.static_fields.specs.Pairing.{StaticField, WrongKind, with_value, default_of, fits_of, paired, first_wrong, class_place, type_text, fields_in, stored_in, field_under, wrong_under, field_in, static_field, wrong_in, wrong_kind}
use Rattle.static_fields.specs.Rules.{no_data, of_data, no_list, a_list}
use Rattle.static_fields.proofs.TextLaws.{bind_parts}
use Rattle.static_fields.proofs.Exactly.{text_exact, fields_exact, stored_exact}
use Rattle.class_readers.specs.Spots.{onward}
use Rattle.class_walk.specs.Methods.{DataBelow}
use Rattle.class_walk.specs.Classes.{ClassBelow, static_count, value_count}
use Rattle.class_walk.specs.Rules.{DataBelowRule, ValuesRule, ClassBelowRule}
use Rattle.whole_check.specs.File.{File}
use Rattle.promises.specs.Reads.{Reads}
use Rattle.promises.specs.Tables.{listed, part_of}
use Rattle.promises.specs.Methods.{if_any}
use Rattle.promises.specs.Statics.{text_in, fields_of, FitsIn, AllFit, StaticReaders}
use Rattle.promises.proofs.Tables.{class_at_lem}
use Rattle.promises.proofs.Annotations.{opened}

-- ---- plain data: what a text's reading does not touch
module _ (text_of other : ℕ → Outcome (List ℕ)) where
  paired_same : (k : ℕ) (m : Member) (vs : List Tree) → text_of m.index ≡ other m.index → paired text_of k m vs ≡ paired other k m vs
  unfolding paired default_of
  paired_same k m vs e = λ i. cond (ltb k (length vs)) (pick k vs >>= λ (v : Tree). with_value m true (shown v)) ((e i >>= λ (t : List ℕ). answer (default t)) >>= with_value m false)

  first_same : (k : ℕ) (ms : List Member) (vs : List Tree) → ((j : ℕ) (m : Member) → At ms j m → text_of m.index ≡ other m.index) → first_wrong text_of k ms vs ≡ first_wrong other k ms vs
  unfolding first_wrong fits_of
  first_same k ms [] e = refl
  first_same k [] (v ∷ vs) e = refl
  first_same k (m ∷ ms) (v ∷ vs) e =
      let rest = first_same (k + 1) ms vs (λ j l q. e (suc j) l (there q)) in
      λ i. (e 0 m here i >>= λ (t : List ℕ). answer (fits t (shown v).kind)) >>= λ (b : Bool). cond b (rest i) (answer (some (record { number = k; field = m.index })))

-- ---- none exactly where every kind fits
module _ (text_of : ℕ → Outcome (List ℕ)) where
  record Fit (m : Member) (v : Tree) : Type 0 where
    text : List ℕ
    text_is : text_of m.index ≡ answer text
    good : fits text (shown v).kind ≡ true

  one_fits : (m : Member) (v : Tree) (b : Bool) → fits_of text_of m.index (shown v).kind ≡ answer b → b ≡ true → Fit m v
  unfolding fits_of
  one_fits m v b e t = let a = bind_parts (text_of m.index) _ e in record { text = a.0; text_is = a.1.0; good = answers_equal a.1.1 ∙ t }

  not_some : {w : WrongKind} → ◌≡◌ {A = Outcome (Option WrongKind)} (answer (some w)) (answer none) → ⊥
  not_some e = let z : ◌≡◌ {A = ℕ} 0 1 = cc in omega arith

  none_fits : (k : ℕ) (ms : List Member) (vs : List Tree) → first_wrong text_of k ms vs ≡ answer none → (j : ℕ) (m : Member) (v : Tree) → At ms j m → At vs j v → Fit m v
  unfolding first_wrong
  none_fits k ms [] e j m v p q = absurd (let z = at_below q in omega arith)
  none_fits k [] (u ∷ vs) e j m v p q = absurd (let z = at_below p in omega arith)
  none_fits k (l ∷ ms) (u ∷ vs) e j m v p q =
      let a = bind_parts (fits_of text_of l.index (shown u).kind) _ e in
      go a.0 a.1.0 a.1.1 (none_fits (k + 1) ms vs) j m v p q
    where
      go : (b : Bool) → fits_of text_of l.index (shown u).kind ≡ answer b → cond b (first_wrong text_of (k + 1) ms vs) (answer (some (record { number = k; field = l.index }))) ≡ answer none
          → (first_wrong text_of (k + 1) ms vs ≡ answer none → (j : ℕ) (m : Member) (v : Tree) → At ms j m → At vs j v → Fit m v)
          → (j : ℕ) (m : Member) (v : Tree) → At (l ∷ ms) j m → At (u ∷ vs) j v → Fit m v
      go true f w rest j m v here here = one_fits l u true f refl
      go true f w rest j m v (there p) (there q) = rest w _ m v p q
      go false f w rest j m v p q = absurd (not_some w)

  fits_none : (k : ℕ) (ms : List Member) (vs : List Tree) → ((j : ℕ) (m : Member) (v : Tree) → At ms j m → At vs j v → Fit m v) → first_wrong text_of k ms vs ≡ answer none
  unfolding first_wrong fits_of
  fits_none k ms [] h = refl
  fits_none k [] (v ∷ vs) h = refl
  fits_none k (m ∷ ms) (v ∷ vs) h =
      let one = h 0 m v here here in
      bind_answer _ (bind_answer _ one.text_is)
      ∙ ap (λ (b : Bool). cond b (first_wrong text_of (k + 1) ms vs) (answer (some (record { number = k; field = m.index })))) one.good
      ∙ fits_none (k + 1) ms vs (λ j l u p q. h (suc j) l u (there p) (there q))

-- number k of a list, and what is made of it
pick_same : {A B : Type 0} (l : List A) (k : ℕ) (g h : A → Outcome B) → ((a : A) → At l k a → g a ≡ h a) → (pick k l >>= g) ≡ (pick k l >>= h)
unfolding pick ◌>>=◌
pick_same [] k g h e = refl
pick_same (a ∷ l) zero g h e = e a here
pick_same (a ∷ l) (suc k) g h e = pick_same l k g h (λ b m. e b (there m))

module _ (f : List ℕ) {r : File} (reads : Reads f r) where
  -- the text of a field's type is the one of the reading
  text_there : (n : ℕ) → n < r.header.fields.count → (text : List ℕ) × ((type_text f r.header n ≡ answer text) × (text_in r n ≡ answer text))
  text_there n p =
      let sizes = reads.fields.count in
      let kinds = reads.types.each.count in
      let names = reads.strings.each.count in
      let m = at_some r.fields n (omega arith) in
      let field = reads.fields.each m.1 in
      let kind-low = field.kind_range in
      let t = at_some r.types m.0.kind (omega arith) in
      let kind = reads.types.each.each t.1 in
      let name-low = kind.range in
      let x = at_some r.strings t.0 (omega arith) in (
        x.0.bytes,
        (
          (text_exact f r.header n).complete x.0.bytes (record { member = m.0; string = t.0; spelt = x.0; field_is = field; type_is = kind; string_is = reads.strings.each.each x.1; bytes = refl }),
          bind_answer _ (pick_there m.1) ∙ bind_answer _ (pick_there t.1) ∙ bind_answer _ (pick_there x.1),
        ),
      )

  pub text_same : (n : ℕ) → n < r.header.fields.count → type_text f r.header n ≡ text_in r n
  text_same n p = let t = text_there n p in t.1.0 ∙ sym t.1.1

  pub text_answers : (n : ℕ) → n < r.header.fields.count → (text : List ℕ) × (text_in r n ≡ answer text)
  text_answers n p = let t = text_there n p in (t.0, t.1.1)

  -- ---- below a class
  abbrev MembersThere : ℕ → Option DataBelow → Type 0
  MembersThere at o = Present (DataBelowRule (up_to_end f r.header) (plain_frame r.header) at) at o

  abbrev ValuesThere : ℕ → Option (List Tree) → Type 0
  ValuesThere at o = Present (ValuesRule (up_to_end f r.header) (walk_of (frame_of r.header r.map.handles.count) at) at) at o

  fields_read : {at : ℕ} {o : Option DataBelow} → MembersThere at o → fields_in f r.header at ≡ answer (fields_of o)
  fields_read {at} (absent e) = (fields_exact f r.header at).complete [] (no_data e)
  fields_read {at} (found_there {a = d} p rule) = (fields_exact f r.header at).complete d.members.statics (of_data p rule.members)

  values_read : {at : ℕ} {o : Option (List Tree)} → ValuesThere at o → stored_in f r.header r.map.handles.count at ≡ answer (listed o)
  values_read {at} (absent e) = (stored_exact f r.header r.map.handles.count at).complete [] (no_list e)
  values_read {at} (found_there {a = l} p rule) = (stored_exact f r.header r.map.handles.count at).complete l (a_list p rule.body)

  pub field_low : {at : ℕ} {o : Option DataBelow} → MembersThere at o → (k : ℕ) (m : Member) → At (fields_of o) k m → m.index < r.header.fields.count
  field_low (absent e) k m q = absurd (let z = at_below q in omega arith)
  field_low (found_there p rule) k m q = rule.members.statics.below q

  value_counted : (o : Option (List Tree)) → value_count o ≡ length (listed o)
  value_counted none = refl
  value_counted (some l) = refl

  field_counted : (o : Option DataBelow) → static_count o ≡ length (fields_of o)
  field_counted none = refl
  field_counted (some d) = refl

  module _ (c : ℕ) (b : ClassBelow) (q : ClassBelowRule f r.header r.map.handles.count c b) where
    few : leb (length (listed b.values)) (length (fields_of b.members)) ≡ true
    few = let z = q.fits in let x = value_counted b.values in let y = field_counted b.members in le-leb (length (listed b.values)) (length (fields_of b.members)) (omega arith)

    under_same : (k : ℕ) → field_under f r.header r.map.handles.count c k b.own.«data» b.own.values ≡ part_of k (fields_of b.members) (λ (m : Member). paired (text_in r) k m (listed b.values))
    unfolding field_under
    under_same k =
        bind_answer _ (fields_read q.members)
        ∙ pick_same (fields_of b.members) k _ _ (λ m at. bind_answer _ (values_read q.values) ∙ sym (passes (too_many_values (class_place r.header c)) few refl)
        ∙ paired_same (type_text f r.header) (text_in r) k m (listed b.values) (text_same m.index (field_low q.members k m at)))

    field_there : (k : ℕ) → present b.own.«data» (field_under f r.header r.map.handles.count c k b.own.«data» b.own.values)
        ≡ if_any (answer b.members) (λ (d : DataBelow). part_of k d.members.statics (λ (m : Member). paired (text_in r) k m (listed b.values)))
    unfolding onward ◌>>=◌
    field_there k = go b.members refl q.members
      where
        go : (o : Option DataBelow) → b.members ≡ o → MembersThere b.own.«data» o
            → present b.own.«data» (field_under f r.header r.map.handles.count c k b.own.«data» b.own.values)
            ≡ if_any (answer o) (λ (d : DataBelow). part_of k d.members.statics (λ (m : Member). paired (text_in r) k m (listed b.values)))
        go none e (absent z) = sym (absent_there _ (omega arith))
        go (some d) e (found_there p rule) =
            sym (present_there (field_under f r.header r.map.handles.count c k b.own.«data» b.own.values) p refl)
            ∙ ap (λ (o : Outcome StaticField). o >>= λ (a : StaticField). answer (some a)) (under_same k ∙ ap (λ (o : Option DataBelow). part_of k (fields_of o) (λ (m : Member). paired (text_in r) k m (listed b.values))) e)

    wrong_there : wrong_under f r.header r.map.handles.count c b.own.«data» b.own.values ≡ first_wrong (text_in r) 0 (fields_of b.members) (listed b.values)
    unfolding wrong_under
    wrong_there =
        bind_answer _ (fields_read q.members) ∙ bind_answer _ (values_read q.values) ∙ sym (passes (too_many_values (class_place r.header c)) few refl)
        ∙ first_same (type_text f r.header) (text_in r) 0 (fields_of b.members) (listed b.values) (λ j m at. text_same m.index (field_low q.members j m at))

  wrong_agrees : (c : ℕ) → wrong_kind f c ≡ part_of c r.classes (λ (b : ClassBelow). first_wrong (text_in r) 0 (fields_of b.members) (listed b.values))
  unfolding wrong_kind wrong_in
  wrong_agrees c = bind_answer _ (opened f reads) ∙ class_at_lem f reads c _ _ (λ b q. wrong_there c b q)

  none_exactly : {n : ℕ} {c : ClassBelow} → At r.classes n c → (wrong_kind f n ≡ answer none) ↔ AllFit r c
  none_exactly {n} {c} at =
      let told = wrong_agrees n ∙ bind_answer _ (pick_there at) in (
        λ e k m v p q. let a = none_fits (text_in r) 0 (fields_of c.members) (listed c.values) (sym told ∙ e) k m v p q in
            record { text = a.text; text_is = a.text_is; takes = (fits_decides a.text (shown v).kind).sound a.good },
        λ h. told ∙ fits_none (text_in r) 0 (fields_of c.members) (listed c.values) (λ k m v p q. let a = h k m v p q in
            record { text = a.text; text_is = a.text_is; good = (fits_decides a.text (shown v).kind).complete a.takes }),
      )

  -- ---- each field is answered
  pub pair_answers : (k : ℕ) (m : Member) (vs : List Tree) → m.index < r.header.fields.count → (a : StaticField) × (paired (text_in r) k m vs ≡ answer a)
  unfolding paired default_of
  pair_answers k m vs p = go (or_not (ltb k (length vs)) (below k (length vs)))
    where
      go : (k < length vs) ⊎ (k < length vs → ⊥) → (a : StaticField) × (paired (text_in r) k m vs ≡ answer a)
      go (inl l) = let v = at_some vs k l in (_, sym (picks _ (lt-ltb k (length vs) l) refl) ∙ bind_answer _ (pick_there v.1))
      go (inr l) = let t = text_answers m.index p in (_, sym (leaves _ (le-ltb k (length vs) (omega arith)) refl) ∙ bind_answer _ (bind_answer _ t.1))

  pub wrong_answers : (k : ℕ) (ms : List Member) (vs : List Tree) → ((j : ℕ) (m : Member) → At ms j m → m.index < r.header.fields.count) → (a : Option WrongKind) × (first_wrong (text_in r) k ms vs ≡ answer a)
  unfolding first_wrong fits_of
  wrong_answers k ms [] h = (none, refl)
  wrong_answers k [] (v ∷ vs) h = (none, refl)
  wrong_answers k (m ∷ ms) (v ∷ vs) h =
      let t = text_answers m.index (h 0 m here) in
      let rest = wrong_answers (k + 1) ms vs (λ j l q. h (suc j) l (there q)) in
      let e = bind_answer (λ (b : Bool). cond b (first_wrong (text_in r) (k + 1) ms vs) (answer (some (record { number = k; field = m.index })))) (bind_answer (λ (t : List ℕ). answer (fits t (shown v).kind)) t.1) in
      go (fits t.0 (shown v).kind) rest e
    where
      go : (b : Bool) → (a : Option WrongKind) × (first_wrong (text_in r) (k + 1) ms vs ≡ answer a) → {o : Outcome (Option WrongKind)} → o ≡ cond b (first_wrong (text_in r) (k + 1) ms vs) (answer (some (record { number = k; field = m.index })))
          → (a : Option WrongKind) × (o ≡ answer a)
      go true rest e = (rest.0, e ∙ rest.1)
      go false rest e = (some (record { number = k; field = m.index }), e)

if_fields : (o : Option DataBelow) {k : ℕ} {m : Member} (g : Member → Outcome StaticField) {a : StaticField} → At (fields_of o) k m → g m ≡ answer a
    → if_any (answer o) (λ (d : DataBelow). part_of k d.members.statics g) ≡ answer (some a)
unfolding onward ◌>>=◌
if_fields none g q e = absurd (let z = at_below q in omega arith)
if_fields (some d) g q e = bind_answer _ (bind_answer g (pick_there q) ∙ e)

pub statics_agree : (f : List ℕ) {r : File} → Reads f r → StaticReaders f r
unfolding static_field field_in
statics_agree f {r} reads = record {
  static_field_lem = λ c k. bind_answer _ (opened f reads) ∙ class_at_lem f reads c _ _ (λ b q. field_there f reads c b q k);
  wrong_kind_lem = wrong_agrees f reads;
  none_exactly = λ at. none_exactly f reads at;
}

-- ---- each is answered
module _ (f : List ℕ) {r : File} (reads : Reads f r) {n : ℕ} {c : ClassBelow} (at : At r.classes n c) where
  pub field_answers : (k : ℕ) (m : Member) → At (fields_of c.members) k m → (a : StaticField) × (static_field f n k ≡ answer (some a))
  field_answers k m q =
      let a = pair_answers f reads k m (listed c.values) (field_low f reads (reads.classes.each at).members k m q) in
      (a.0, (statics_agree f reads).static_field_lem n k ∙ bind_answer _ (pick_there at) ∙ if_fields c.members _ q a.1)

  pub kind_answers : (a : Option WrongKind) × (wrong_kind f n ≡ answer a)
  kind_answers =
      let a = wrong_answers f reads 0 (fields_of c.members) (listed c.values) (λ j m q. field_low f reads (reads.classes.each at).members j m q) in
      (a.0, (statics_agree f reads).wrong_kind_lem n ∙ bind_answer _ (pick_there at) ∙ a.1)
