-- What the proofs of the functions of kinds.rt cite: what is gone over a second time, fields and values side by side, is what was read.
-- Assumes nothing.
use Prim.Native.Nat.{ℕ, zero, suc, ◌+◌, ◌-◌, ◌%◌, ◌/◌, ◌<◌, ◌≤◌}
use mathlib.Core.Path.{◌≡◌, refl, ap, sym, ◌∙◌}
use mathlib.Core.Bool.{Bool, true, false, cond}
use mathlib.Core.Option.{Option, none, some}
use mathlib.Core.List.{List, [], ◌∷◌}
use lib.ListN.{length}
use lib.Dec.{ltb, leb, eqb}
use lib.IntN.{ℤ}
use borrow.Author.Rules.{rules}
use borrow.Author.Tests.{le-leb, lt-leb, eqb-true}
use native.Mathlib.Omega.{arith}
use Rattle.refusal.specs.Refusals.{too_many_values}
use Rattle.refusal.specs.declared.Refusal.{Refusal}
use Rattle.refusal.specs.Outcome.{Outcome, answer, refused, ◌>>=◌, given}
use Rattle.refusal.specs.Rows.{Found, in_front, collect}
use Rattle.refusal.proofs.Laws.{calls, tests, handed_on, on_ok, on_err, bind_answer, bind_refused, refused_by, passes, fails, one_less, some_left, all_left}
use Rattle.refusal.proofs.Exact.{answers_equal, never}
use Rattle.refusal.proofs.Rows.{past_answer, past_refused, bind_assoc, collect_exact}
use Rattle.refusal.proofs.Kept.{part_answer}
use Rattle.refusal.proofs.Choose.{row_length, collect_length}
use Rattle.leb128.specs.Leb.{uleb_at}
use Rattle.leb128.proofs.Exactly.{uleb_exact}
use Rattle.frame.specs.declared.Frame.{Frame}
use Rattle.header.specs.declared.Header.{Header}
use Rattle.header.specs.Header.{up_to_end, plain_frame}
use Rattle.class_members.specs.declared.Member.{Member}
use Rattle.class_members.specs.declared.MemberJudge.{MemberJudge}
use Rattle.class_members.specs.Members.{member_at, Run, step_at, begin, members_at}
use Rattle.class_data.specs.declared.Counts.{Counts}
use Rattle.class_data.specs.Data.{Two, two_at, fields_judge, methods_judge, ClassData, class_data_at, counts, extent_at, counts_at}
use Rattle.value_heads.specs.declared.Walk.{Walk}
use Rattle.value_heads.specs.Numbers.{signed, raised}
use Rattle.value_heads.specs.Readings.{head_byte_at, checked_at}
use Rattle.encoded_value.specs.Tree.{Tree, byte, short, char, int, long, float, double, index, null, boolean, array, annotation, plain_of, rest_of, trees, elements_of, Annotation}
use Rattle.encoded_value.specs.Depth.{deepest, deepest_value}
use Rattle.encoded_value.specs.Readings.{as_array, as_annotation, plain_at, kind_with, value_at, array_at, annotation_at, past_value}
use Rattle.encoded_value.proofs.Layers.{ArrayWithin, array_parts}
use Rattle.encoded_value.proofs.Exactly.{value_exact, array_exact}
use Rattle.encoded_value.proofs.Cycle.{no_value, value_kind}
use Rattle.decoded_value.specs.Shown.{shown}
use Rattle.value_bodies.specs.Bodies.{array_count}
use Rattle.value_readers.specs.Opening.{walk_in}
use Rattle.value_readers.proofs.Laws.{walk_framed}
use Rattle.static_fields.specs.Pairing.{WrongKind, fits_of, first_wrong, class_place, type_text, fields_in, stored_in, wrong_under}
use Rattle.static_fields.specs.Stages.{fields_begin, values_begin, fields_from, values_from, kind_at, fits_at, wrong_from}
use Rattle.static_fields.proofs.TextLaws.{bind_parts}

-- ---- the kind of a value is that of its head byte
either_kind : (b : Bool) (t u : Tree) (code : ℕ) → (b ≡ true → (shown t).kind ≡ code) → (shown u).kind ≡ code → (shown (cond b t u)).kind ≡ code
either_kind true t u code p q = p refl
either_kind false t u code p q = q

rest_kind : (code argument x : ℕ) → (shown (rest_of code argument x)).kind ≡ code
unfolding rest_of
rest_kind code argument x =
    let d : Tree = index code x in
    let c : Tree = cond (eqb code 0x1f) (boolean (eqb argument 1)) d in
    let b : Tree = cond (eqb code 0x1e) null c in
    let a : Tree = cond (eqb code 0x11) (double (raised 8 (argument + 1) x)) b in
    either_kind (eqb code 0x10) (float (raised 4 (argument + 1) x)) a code (λ e. sym (eqb-true code 0x10 e))
    (either_kind (eqb code 0x11) (double (raised 8 (argument + 1) x)) b code (λ e. sym (eqb-true code 0x11 e))
    (either_kind (eqb code 0x1e) null c code (λ e. sym (eqb-true code 0x1e e))
    (either_kind (eqb code 0x1f) (boolean (eqb argument 1)) d code (λ e. sym (eqb-true code 0x1f e)) refl)))

plain_kind : (code argument x : ℕ) → (shown (plain_of code argument x)).kind ≡ code
unfolding plain_of
plain_kind code argument x =
    let z : ℤ = signed (argument + 1) x in
    let e : Tree = rest_of code argument x in
    let d : Tree = cond (eqb code 0x06) (long z) e in
    let c : Tree = cond (eqb code 0x04) (int z) d in
    let b : Tree = cond (eqb code 0x03) (char x) c in
    let a : Tree = cond (eqb code 0x02) (short z) b in
    either_kind (eqb code 0x00) (byte z) a code (λ q. sym (eqb-true code 0x00 q))
    (either_kind (eqb code 0x02) (short z) b code (λ q. sym (eqb-true code 0x02 q))
    (either_kind (eqb code 0x03) (char x) c code (λ q. sym (eqb-true code 0x03 q))
    (either_kind (eqb code 0x04) (int z) d code (λ q. sym (eqb-true code 0x04 q))
    (either_kind (eqb code 0x06) (long z) e code (λ q. sym (eqb-true code 0x06 q)) (rest_kind code argument x)))))

-- .. of what stands behind it
kind_of : (s : List ℕ) (w : Walk) (body : ℕ → Outcome (Found (List Tree) ℕ)) (noted : ℕ → Outcome (Found Annotation ℕ)) (h p : ℕ) {r : Found Tree ℕ}
    → kind_with s w body noted h p ≡ answer r → (shown r.item).kind ≡ h % 32
unfolding kind_with plain_at
kind_of s w body noted h p {r} = go (eqb (h % 32) 0x1c) (eqb (h % 32) 0x1d) refl refl
  where
    go : (a b : Bool) → eqb (h % 32) 0x1c ≡ a → eqb (h % 32) 0x1d ≡ b
        → cond a (body p >>= as_array p) (cond b (noted p >>= as_annotation p) (checked_at s w h p >>= λ (n : Found ℕ ℕ). answer (record { item = plain_of (h % 32) (h / 32) n.item; next = n.next }))) ≡ answer r
        → (shown r.item).kind ≡ h % 32
    go true b q t e =
        let a = part_answer (λ (v : Found (List Tree) ℕ). record { item = array p v.next (trees v.item); next = v.next }) (body p) e in
        ap (λ (v : Found Tree ℕ). (shown v.item).kind) (sym a.1.1) ∙ sym (eqb-true (h % 32) 0x1c q)
    go false true q t e =
        let a = part_answer (λ (v : Found Annotation ℕ). record { item = annotation p v.next v.item.type_index (elements_of v.item.elements); next = v.next }) (noted p) e in
        ap (λ (v : Found Tree ℕ). (shown v.item).kind) (sym a.1.1) ∙ sym (eqb-true (h % 32) 0x1d t)
    go false false q t e =
        let a = part_answer (λ (n : Found ℕ ℕ). record { item = plain_of (h % 32) (h / 32) n.item; next = n.next }) (checked_at s w h p) e in
        ap (λ (v : Found Tree ℕ). (shown v.item).kind) (sym a.1.1) ∙ plain_kind (h % 32) (h / 32) a.0.item

module _ (s : List ℕ) (w : Walk) (p : ℕ) where
  pub kind_no_head : {r : Refusal} → refused r ≡ head_byte_at s w.item p → refused r ≡ kind_at s w p
  unfolding kind_at
  kind_no_head e = sym (bind_refused _ (no_value s w deepest_value p e))

  pub kind_no_value : {r : Refusal} → refused r ≡ past_value s w deepest_value p → refused r ≡ kind_at s w p
  unfolding kind_at
  kind_no_value g = sym (bind_refused _ (sym (past_refused (value_at s w deepest_value p) g)))

  pub kind_got : {h q : ℕ} → answer h ≡ head_byte_at s w.item p → answer q ≡ past_value s w deepest_value p → answer (record { item = h % 32; next = q }) ≡ kind_at s w p
  unfolding kind_at
  kind_got {h} e g =
      let a = past_answer (value_at s w deepest_value p) g in
      let k = kind_of s w (array_at s w deepest_value) (annotation_at s w deepest_value) h (p + 1) (sym (value_kind s w deepest_value p e) ∙ sym a.1.0) in
      sym (bind_answer _ (sym a.1.0) ∙ (λ i. answer (record { item = k i; next = a.1.1 i })))

-- what was read in the file up to the data section's end, s, against the file's frame or walk
pub fields_framed : (f : List ℕ) (h : Header) (at : ℕ) {s : List ℕ} {r : Frame} {y : Outcome (Found ℕ ℕ)} → s ≡ up_to_end f h → r ≡ plain_frame h → y ≡ fields_begin s r at → y ≡ fields_begin (up_to_end f h) (plain_frame h) at
fields_framed f h at e g q = q ∙ (λ i. fields_begin (e i) (g i) at)

pub values_walked : (f : List ℕ) (h : Header) (handles at : ℕ) {s : List ℕ} {w : Walk} {y : Outcome (Found ℕ ℕ)} → s ≡ up_to_end f h → w ≡ walk_in h handles at → y ≡ values_begin s w at → y ≡ values_begin (up_to_end f h) (walk_in h handles at) at
values_walked f h handles at e g q = q ∙ (λ i. values_begin (e i) (g i) at)

module _ (f : List ℕ) (h : Header) (handles at p : ℕ) {s : List ℕ} {w : Walk} {B : Type 0} (k : Found ℕ ℕ → Outcome B) (e : s ≡ up_to_end f h) (g : w ≡ walk_in h handles at) where
  pub kind_walked : {a n : ℕ} {y : Outcome B} → answer (record { item = a; next = n }) ≡ kind_at s w p → y ≡ k (record { item = a; next = n }) → y ≡ (kind_at (up_to_end f h) (walk_in h handles at) p >>= k)
  kind_walked q v = on_ok k (q ∙ (λ i. kind_at (e i) (g i) p)) v

  pub no_kind_walked : {r : Refusal} → refused r ≡ kind_at s w p → refused r ≡ (kind_at (up_to_end f h) (walk_in h handles at) p >>= k)
  no_kind_walked q = on_err k (q ∙ (λ i. kind_at (e i) (g i) p))

-- ---- a row, by its first item and the rest
record Split {A S : Type 0} (step : S → Outcome (Found A S)) (n : ℕ) (s : S) (r : Found (List A) S) : Type 0 where
  first_one : Found A S
  rest : Found (List A) S
  begins : step s ≡ answer first_one
  goes_on : collect n step first_one.next ≡ answer rest
  whole : first_one.item ∷ rest.item ≡ r.item

split : {A S : Type 0} (step : S → Outcome (Found A S)) (n : ℕ) (s : S) (r : Found (List A) S) → collect (suc n) step s ≡ answer r → Split step n s r
unfolding collect
split {A} {S} step n s r e =
    let a = bind_parts (step s) (λ (q : Found A S). collect n step q.next >>= in_front q.item) e in
    let b = bind_parts (collect n step a.0.next) (in_front a.0.item) a.1.1 in
    record { first_one = a.0; rest = b.0; begins = a.1.0; goes_on = b.1.0; whole = ap (λ (x : Found (List A) S). x.item) (answers_equal b.1.1) }

no_items : {A S : Type 0} (step : S → Outcome (Found A S)) (s : S) (r : Found (List A) S) → collect zero step s ≡ answer r → r.item ≡ []
unfolding collect
no_items {A} {S} step s r e = ap (λ (x : Found (List A) S). x.item) (sym (answers_equal e))

-- ---- the second going over finds what the first did
module _ (f : List ℕ) (h : Header) (handles at values : ℕ) where
  abbrev field_step : Run → Outcome (Found Member Run)
  field_step = step_at (up_to_end f h) (fields_judge (plain_frame h)) at

  abbrev value_step : ℕ → Outcome (Found Tree ℕ)
  value_step = value_at (up_to_end f h) (walk_in h handles values) deepest_value

  abbrev wrong_at : ℕ → Member → Outcome (Option WrongKind)
  wrong_at k m = answer (some (record { number = k; field = m.index }))

  -- a value that was read is judged as its tree is
  judged : (p n : ℕ) {v : Found Tree ℕ} {B : Type 0} (k : Found Bool ℕ → Outcome B) → value_step p ≡ answer v
      → (fits_at f h handles values p n >>= k) ≡ (fits_of (type_text f h) n (shown v.item).kind >>= λ (b : Bool). k (record { item = b; next = v.next }))
  unfolding fits_at kind_at ◌>>=◌
  judged p n {v} k e =
      ap (λ (o : Outcome (Found Tree ℕ)). (o >>= λ (a : Found Tree ℕ). answer (record { item = (shown a.item).kind; next = a.next })) >>= (λ (a : Found ℕ ℕ). fits_of (type_text f h) n a.item >>= λ (b : Bool). answer (record { item = b; next = a.next })) >>= k) e
      ∙ bind_assoc (fits_of (type_text f h) n (shown v.item).kind) (λ (b : Bool). answer (record { item = b; next = v.next })) k

  again : (n m : ℕ) (t : Run) (p k : ℕ) (fields : Found (List Member) Run) (vs : Found (List Tree) ℕ) → n ≤ m → collect m field_step t ≡ answer fields → collect n value_step p ≡ answer vs
      → wrong_from f h handles at values n t p k ≡ first_wrong (type_text f h) k fields.item vs.item
  unfolding wrong_from first_wrong
  again zero m t p k fields vs l e g = ap (λ (x : List Tree). first_wrong (type_text f h) k fields.item x) (sym (no_items value_step p vs g))
  again (suc n) zero t p k fields vs l e g = absurd (omega arith)
  again (suc n) (suc m) t p k fields vs l e g =
      let a = split field_step m t fields e in
      let b = split value_step n p vs g in
      let rest = again n m a.first_one.next b.first_one.next (k + 1) a.rest b.rest (omega arith) a.goes_on b.goes_on in
      bind_answer _ a.begins
      ∙ judged p a.first_one.item.index (λ (v : Found Bool ℕ). cond v.item (wrong_from f h handles at values n a.first_one.next v.next (k + 1)) (wrong_at k a.first_one.item)) b.begins
      ∙ (λ i. fits_of (type_text f h) a.first_one.item.index (shown b.first_one.item).kind >>= λ (fit : Bool). cond fit (rest i) (wrong_at k a.first_one.item))
      ∙ (λ i. first_wrong (type_text f h) k (a.whole i) (b.whole i))

-- ---- where fields begin
abbrev extent_of : ClassData → Found Counts ℕ
extent_of d = record { item = counts d; next = d.end }

abbrev begun_of : Found Counts ℕ → Found ℕ ℕ
begun_of c = record { item = c.item.statics; next = c.next }

abbrev values_of_size : ℕ → Found ℕ ℕ → Found ℕ ℕ
values_of_size n z = record { item = n; next = z.next }

module _ (s : List ℕ) (r : Frame) (at : ℕ) where
  -- class data that was read: its static fields, as many as the counts say, from where the counts end
  record Fields (d : ClassData) (c : Found Counts ℕ) : Type 0 where
    run : Run
    row : collect c.item.statics (step_at s (fields_judge r) at) (begin c.next) ≡ answer (record { item = d.statics; next = run })

  fields_there : {d : ClassData} {c : Found Counts ℕ} → class_data_at s r at ≡ answer d → counts_at s at ≡ answer c → Fields d c
  unfolding class_data_at two_at members_at
  fields_there {d} {c} q t =
      let all = bind_parts (counts_at s at) _ q in
      let two = bind_parts (two_at s (fields_judge r) at all.0.next all.0.item.statics all.0.item.instances) _ all.1.1 in
      let others = bind_parts (two_at s (methods_judge r) at two.0.next all.0.item.directs all.0.item.virtuals) _ two.1.1 in
      let one = bind_parts (members_at s (fields_judge r) at all.0.next all.0.item.statics) _ two.1.0 in
      let next = bind_parts (members_at s (fields_judge r) at one.0.next.place all.0.item.instances) _ one.1.1 in
      let same = answers_equal (sym t ∙ all.1.0) in
      let is = ap (λ (x : Found Two ℕ). x.item.first) (answers_equal next.1.1) ∙ ap (λ (x : ClassData). x.statics) (answers_equal others.1.1) in
      record { run = one.0.next; row = (λ i. collect (same i).item.statics (step_at s (fields_judge r) at) (begin (same i).next)) ∙ one.1.0 ∙ (λ i. answer (record { item = is i; next = one.0.next })) }

  counts_there : {d : ClassData} → class_data_at s r at ≡ answer d → (c : Found Counts ℕ) × (counts_at s at ≡ answer c)
  unfolding class_data_at
  counts_there q = let all = bind_parts (counts_at s at) _ q in (all.0, all.1.0)

  begin_refused : {z : Refusal} → fields_begin s r at ≡ refused z → class_data_at s r at ≡ refused z
  unfolding fields_begin extent_at ◌>>=◌
  begin_refused {z} e = go (class_data_at s r at) refl e
    where
      go : (o : Outcome ClassData) → class_data_at s r at ≡ o
          → (o >>= (λ (d : ClassData). answer (extent_of d)) >>= λ (x : Found Counts ℕ). counts_at s at >>= λ (c : Found Counts ℕ). answer (begun_of c)) ≡ refused z
          → o ≡ refused z
      go (answer d) q w = let c = counts_there q in absurd (never (sym w ∙ bind_answer _ c.1))
      go (refused y) q w = cc

  begin_told : {n p : ℕ} → fields_begin s r at ≡ answer (record { item = n; next = p })
      → (d : ClassData) × ((class_data_at s r at ≡ answer d) × ((u : Run) × (collect n (step_at s (fields_judge r) at) (begin p) ≡ answer (record { item = d.statics; next = u }))))
  unfolding fields_begin extent_at
  begin_told e =
      let a = bind_parts (class_data_at s r at >>= λ (d : ClassData). answer (record { item = counts d; next = d.end })) _ e in
      let d = part_answer (λ (d : ClassData). record { item = counts d; next = d.end }) (class_data_at s r at) a.1.0 in
      let c = part_answer (λ (c : Found Counts ℕ). record { item = c.item.statics; next = c.next }) (counts_at s at) a.1.1 in
      let there = fields_there d.1.0 c.1.0 in
      (d.0, (d.1.0, (there.run, (λ i. collect (sym c.1.1 i).item (step_at s (fields_judge r) at) (begin (sym c.1.1 i).next)) ∙ there.row)))

module _ (f : List ℕ) (h : Header) (at : ℕ) where
  record FieldsTold (n p : ℕ) : Type 0 where
    fields : List Member
    run : Run
    read : fields_in f h at ≡ answer fields
    row : collect n (step_at (up_to_end f h) (fields_judge (plain_frame h)) at) (begin p) ≡ answer (record { item = fields; next = run })

  fields_told : {n p : ℕ} → fields_from f h at ≡ answer (record { item = n; next = p }) → FieldsTold n p
  unfolding fields_from fields_in collect
  fields_told {n} {p} e = go (ltb 0 at) refl e
    where
      go : (b : Bool) → ltb 0 at ≡ b → cond b (fields_begin (up_to_end f h) (plain_frame h) at) (answer (record { item = 0; next = 0 })) ≡ answer (record { item = n; next = p }) → FieldsTold n p
      go true q w =
          let a = begin_told (up_to_end f h) (plain_frame h) at w in
          record { fields = a.0.statics; run = a.1.1.0; read = ap (λ (b : Bool). cond b (class_data_at (up_to_end f h) (plain_frame h) at >>= λ (d : ClassData). answer d.statics) (answer [])) q ∙ bind_answer _ a.1.0; row = a.1.1.1 }
      go false q w =
          let none_there = ap (λ (x : Found ℕ ℕ). x.item) (answers_equal (sym w)) in
          record {
            fields = [];
            run = begin p;
            read = ap (λ (b : Bool). cond b (class_data_at (up_to_end f h) (plain_frame h) at >>= λ (d : ClassData). answer d.statics) (answer [])) q;
            row = ap (λ (k : ℕ). collect k (step_at (up_to_end f h) (fields_judge (plain_frame h)) at) (begin p)) none_there;
          }

  fields_untold : {z : Refusal} → fields_from f h at ≡ refused z → fields_in f h at ≡ refused z
  unfolding fields_from fields_in
  fields_untold {z} e = go (ltb 0 at) e
    where
      go : (b : Bool) → cond b (fields_begin (up_to_end f h) (plain_frame h) at) (answer (record { item = 0; next = 0 })) ≡ refused z
          → cond b (class_data_at (up_to_end f h) (plain_frame h) at >>= λ (d : ClassData). answer d.statics) (answer []) ≡ refused z
      go true w = bind_refused _ (begin_refused (up_to_end f h) (plain_frame h) at w)
      go false w = absurd (never (sym w))

-- ---- where values begin
module _ (f : List ℕ) (h : Header) (handles at : ℕ) where
  abbrev s : List ℕ
  s = up_to_end f h

  abbrev w : Walk
  w = walk_in h handles at

  array_there : {r : Found (List Tree) ℕ} → array_at s w deepest at ≡ answer r → ArrayWithin s w deepest_value at r.item r.next
  array_there {r} e = let a = (array_exact s w deepest at).sound r e in array_parts s w a.0 a.1

  size_there : {r : Found (List Tree) ℕ} (e : array_at s w deepest at ≡ answer r) → uleb_at s at at ≡ answer (array_there e).size
  size_there e = (uleb_exact s at at).complete (array_there e).size (array_there e).uleb

  record ValuesTold (n p : ℕ) : Type 0 where
    values : List Tree
    last : ℕ
    read : stored_in f h handles at ≡ answer values
    row : collect n (value_at s w deepest_value) p ≡ answer (record { item = values; next = last })

  values_found : {n p : ℕ} → values_begin s w at ≡ answer (record { item = n; next = p })
      → (r : Found (List Tree) ℕ) × ((array_at s w deepest at ≡ answer r) × (collect n (value_at s w deepest_value) p ≡ answer (record { item = r.item; next = r.next })))
  unfolding values_begin array_count
  values_found {n} {p} e =
      let a = bind_parts (array_at s w deepest at >>= λ (r : Found (List Tree) ℕ). answer (length r.item)) _ e in
      let r = part_answer (λ (r : Found (List Tree) ℕ). length r.item) (array_at s w deepest at) a.1.0 in
      let z = part_answer (λ (z : Found ℕ ℕ). record { item = a.0; next = z.next }) (uleb_at s at at) a.1.1 in
      let there = array_there r.1.0 in
      let row = (collect_exact (value_at s w deepest_value) _ (value_exact s w deepest_value) there.size.item there.size.next).complete r.0 there.row in
      let count : there.size.item ≡ n = sym (row_length there.row) ∙ r.1.1 ∙ ap (λ (x : Found ℕ ℕ). x.item) z.1.1 in
      let place : there.size.next ≡ p = ap (λ (x : Found ℕ ℕ). x.next) (answers_equal (sym (size_there r.1.0) ∙ z.1.0)) ∙ ap (λ (x : Found ℕ ℕ). x.next) z.1.1 in
      (r.0, (r.1.0, (λ i. collect (sym count i) (value_at s w deepest_value) (sym place i)) ∙ row))

  values_told : {n p : ℕ} → values_from f h handles at ≡ answer (record { item = n; next = p }) → ValuesTold n p
  unfolding values_from stored_in collect
  values_told {n} {p} e = go (ltb 0 at) refl e
    where
      go : (b : Bool) → ltb 0 at ≡ b → cond b (values_begin s w at) (answer (record { item = 0; next = 0 })) ≡ answer (record { item = n; next = p }) → ValuesTold n p
      go true q v =
          let a = values_found v in
          record { values = a.0.item; last = a.0.next; read = ap (λ (b : Bool). cond b (array_at s w deepest at >>= λ (r : Found (List Tree) ℕ). answer r.item) (answer [])) q ∙ bind_answer _ a.1.0; row = a.1.1 }
      go false q v =
          let none_there = ap (λ (x : Found ℕ ℕ). x.item) (answers_equal (sym v)) in
          record {
            values = [];
            last = p;
            read = ap (λ (b : Bool). cond b (array_at s w deepest at >>= λ (r : Found (List Tree) ℕ). answer r.item) (answer [])) q;
            row = ap (λ (k : ℕ). collect k (value_at s w deepest_value) p) none_there;
          }

  values_refused : {z : Refusal} → values_begin s w at ≡ refused z → array_at s w deepest at ≡ refused z
  unfolding values_begin array_count ◌>>=◌
  values_refused {z} e = go (array_at s w deepest at) refl e
    where
      go : (o : Outcome (Found (List Tree) ℕ)) → array_at s w deepest at ≡ o
          → (o >>= (λ (r : Found (List Tree) ℕ). answer (length r.item)) >>= λ (n : ℕ). uleb_at s at at >>= λ (y : Found ℕ ℕ). answer (values_of_size n y)) ≡ refused z
          → o ≡ refused z
      go (answer r) q v = absurd (never (sym v ∙ bind_answer _ (size_there q)))
      go (refused y) q v = cc

  values_untold : {z : Refusal} → values_from f h handles at ≡ refused z → stored_in f h handles at ≡ refused z
  unfolding values_from stored_in
  values_untold {z} e = go (ltb 0 at) e
    where
      go : (b : Bool) → cond b (values_begin s w at) (answer (record { item = 0; next = 0 })) ≡ refused z
          → cond b (array_at s w deepest at >>= λ (r : Found (List Tree) ℕ). answer r.item) (answer []) ≡ refused z
      go true v = bind_refused _ (values_refused v)
      go false v = absurd (never (sym v))

-- ---- the ways through `wrong_under`
module _ (f : List ℕ) (h : Header) (handles c at values : ℕ) where
  pub wrong_no_fields : {z : Refusal} → refused z ≡ fields_from f h at → refused z ≡ wrong_under f h handles c at values
  unfolding wrong_under
  wrong_no_fields e = sym (bind_refused _ (fields_untold f h at (sym e)))

  module _ {m p : ℕ} (e : answer (record { item = m; next = p }) ≡ fields_from f h at) where
    fields_of : FieldsTold f h at m p
    fields_of = fields_told f h at (sym e)

    pub wrong_no_values : {z : Refusal} → refused z ≡ values_from f h handles values → refused z ≡ wrong_under f h handles c at values
    unfolding wrong_under
    wrong_no_values g = sym (bind_answer _ fields_of.read ∙ bind_refused _ (values_untold f h handles values (sym g)))

    module _ {n q : ℕ} (g : answer (record { item = n; next = q }) ≡ values_from f h handles values) where
      values_of : ValuesTold f h handles values n q
      values_of = values_told f h handles values (sym g)

      fields_long : length fields_of.fields ≡ m
      fields_long = collect_length _ m (begin p) _ fields_of.row

      values_long : length values_of.values ≡ n
      values_long = collect_length _ n q _ values_of.row

      opened : wrong_under f h handles c at values
          ≡ given (leb (length values_of.values) (length fields_of.fields)) (too_many_values (class_place h c)) (first_wrong (type_text f h) 0 fields_of.fields values_of.values)
      unfolding wrong_under
      opened = bind_answer _ fields_of.read ∙ bind_answer _ values_of.read

      pub wrong_many : {place : ℕ} {z : Refusal} → m < n → place ≡ class_place h c → z ≡ too_many_values place → refused z ≡ wrong_under f h handles c at values
      wrong_many less is made =
          let a = fields_long in
          let b = values_long in
          refused_by made ∙ ap (λ (k : ℕ). refused (too_many_values k)) is
          ∙ sym (opened ∙ sym (fails _ refl (lt-leb (length values_of.values) (length fields_of.fields) (omega arith))))

      pub wrong_again : {o : Outcome (Option WrongKind)} → n ≤ m → o ≡ wrong_from f h handles at values n (begin p) q 0 → o ≡ wrong_under f h handles c at values
      wrong_again few k =
          let a = fields_long in
          let b = values_long in
          k ∙ again f h handles at values n m (begin p) q 0 _ _ few fields_of.row values_of.row
          ∙ sym (opened ∙ sym (passes (too_many_values (class_place h c)) (le-leb (length values_of.values) (length fields_of.fields) (omega arith)) refl))

-- ---- the loop of `wrong_from` at its head
abbrev run_of : ℕ → ℕ → Bool → Run
run_of p base later = record { place = p; base = base; later = later }

pub record Seeking (f : List ℕ) (h : Header) (handles at values from first count : ℕ) (s : List ℕ) (j : MemberJudge) (p base : ℕ) (later : Bool) (q k : ℕ) : Type 0 where
  section_is : s ≡ up_to_end f h
  judge_is : j ≡ fields_judge (plain_frame h)
  same : wrong_from f h handles at values count (begin from) first 0 ≡ wrong_from f h handles at values (count - k) (run_of p base later) q k

pub seeking_first : (f : List ℕ) (h : Header) (handles at values from first count : ℕ) {s : List ℕ} {j : MemberJudge} → s ≡ up_to_end f h → j ≡ fields_judge (plain_frame h)
    → Seeking f h handles at values from first count s j from 0 false first 0
seeking_first f h handles at values from first count e g = record { section_is = e; judge_is = g; same = ap (λ (n : ℕ). wrong_from f h handles at values n (begin from) first 0) all_left }

wrong_more : (f : List ℕ) (h : Header) (handles at values left : ℕ) (t : Run) (q k : ℕ) → 0 < left → wrong_from f h handles at values left t q k
    ≡ (step_at (up_to_end f h) (fields_judge (plain_frame h)) at t >>= λ (m : Found Member Run). fits_at f h handles values q m.item.index >>= λ (v : Found Bool ℕ).
    cond v.item (wrong_from f h handles at values (left - 1) m.next v.next (k + 1)) (answer (some (record { number = k; field = m.item.index }))))
unfolding wrong_from
wrong_more f h handles at values zero t q k l = absurd (omega arith)
wrong_more f h handles at values (suc left) t q k l = let back : suc left - 1 ≡ left = omega arith in rw back

module _ {f : List ℕ} {h : Header} {handles at values from first count : ℕ} {s : List ℕ} {j : MemberJudge} {p base : ℕ} {later : Bool} {q k : ℕ}
    (w : Seeking f h handles at values from first count s j p base later q k) where
  pub seeking_done : count ≤ k → answer none ≡ wrong_from f h handles at values count (begin from) first 0
  unfolding wrong_from
  seeking_done l = let z : count - k ≡ 0 = omega arith in sym (w.same ∙ ap (λ (n : ℕ). wrong_from f h handles at values n (run_of p base later) q k) z)

  module _ (l : k < count) where
    pub seeking_stop : {r : Refusal} → refused r ≡ member_at s j at base later p → refused r ≡ wrong_from f h handles at values count (begin from) first 0
    unfolding step_at
    seeking_stop e = sym (w.same ∙ wrong_more f h handles at values (count - k) (run_of p base later) q k (some_left l) ∙ bind_refused _ (bind_refused _ (sym (e ∙ (λ i. member_at (w.section_is i) (w.judge_is i) at base later p)))))

    module _ {m : Member} {n : ℕ} (e : answer (record { item = m; next = n }) ≡ member_at s j at base later p) where
      abbrev rest : Bool → ℕ → Outcome (Option WrongKind)
      rest b z = cond b (wrong_from f h handles at values (count - k - 1) (run_of n m.index true) z (k + 1)) (answer (some (record { number = k; field = m.index })))

      stepped : wrong_from f h handles at values count (begin from) first 0 ≡ (fits_at f h handles values q m.index >>= λ (v : Found Bool ℕ). rest v.item v.next)
      unfolding step_at
      stepped =
          w.same ∙ wrong_more f h handles at values (count - k) (run_of p base later) q k (some_left l)
          ∙ bind_answer _ (bind_answer _ (sym (e ∙ (λ i. member_at (w.section_is i) (w.judge_is i) at base later p))))

      pub seeking_fail : {r : Refusal} → refused r ≡ fits_at f h handles values q m.index → refused r ≡ wrong_from f h handles at values count (begin from) first 0
      seeking_fail g = sym (stepped ∙ bind_refused _ (sym g))

      module _ {b : Bool} {z : ℕ} (g : answer (record { item = b; next = z }) ≡ fits_at f h handles values q m.index) where
        pub seeking_found : b ≡ false → answer (some (record { number = k; field = m.index })) ≡ wrong_from f h handles at values count (begin from) first 0
        seeking_found v = sym (stepped ∙ bind_answer _ (sym g) ∙ ap (λ (i : Bool). rest i z) v)

        pub seeking_next : b ≡ true → Seeking f h handles at values from first count s j n m.index true z (k + 1)
        seeking_next v = record {
          section_is = w.section_is;
          judge_is = w.judge_is;
          same = stepped ∙ bind_answer _ (sym g) ∙ ap (λ (i : Bool). rest i z) v ∙ ap (λ (a : ℕ). wrong_from f h handles at values a (run_of n m.index true) z (k + 1)) (one_less l);
        }

pub ruleset begin_laws = (calls, tests, rules)

pub ruleset from_laws = (fields_framed, values_walked, calls, tests, rules)

pub ruleset walk_laws = (walk_framed, rules)

pub ruleset kind_laws = (kind_no_head, kind_no_value, kind_got, handed_on, rules)

pub ruleset fits_laws = (kind_walked, no_kind_walked, calls, tests, rules)

pub ruleset seeking = (seeking_first, seeking_stop, seeking_fail, seeking_found, seeking_next, seeking_done, handed_on, rules)

pub ruleset under_laws = (wrong_no_fields, wrong_no_values, wrong_many, wrong_again, handed_on, rules)

pub ruleset laws = (calls, tests, rules)
