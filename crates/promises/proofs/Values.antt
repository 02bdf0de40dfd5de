-- On a file of which a reading is known, each reader of values answers what the reading says.
-- Assumes nothing.
use Prim.Native.Nat.{ℕ, ◌+◌, ◌-◌, ◌<◌, ◌≤◌}
use mathlib.Core.Path.{◌≡◌, refl, ap, sym, subst, ◌∙◌}
use mathlib.Core.Logic.{inl, inr}
use mathlib.Core.Bool.{false, false≢true}
use mathlib.Core.Option.{Option, some}
use mathlib.Core.List.{List, [], ◌∷◌}
use lib.ListN.{length}
use borrow.Author.Tests.{lt-ltb, le-ltb}
use native.Mathlib.Omega.{arith}
use Rattle.refusal.specs.Outcome.{answer, ◌>>=◌}
use Rattle.refusal.specs.Exact.{Present, absent, found_there, Row, first, At, here, there}
use Rattle.refusal.proofs.Laws.{bind_answer, picks, leaves}
use Rattle.refusal.proofs.Each.{at_below}
use Rattle.frame.specs.Offsets.{Allowed, AllowedOrAbsent}
use Rattle.header.specs.Header.{up_to_end, frame_of, plain_frame}
use Rattle.value_heads.specs.declared.Walk.{Walk}
use Rattle.value_heads.specs.Kinds.{walk_of}
use Rattle.encoded_value.specs.Tree.{Named, Annotation, Tree, array, annotation, Trees, no_tree, tree, Elements, no_element, element, trees, elements_of}
use Rattle.encoded_value.specs.Readings.{array_at, annotation_at}
use Rattle.encoded_value.specs.Depth.{deepest, deepest_value, depth}
use Rattle.encoded_value.specs.Rules.{Value, ArrayRule, AnnotationRule}
use Rattle.encoded_value.proofs.Exactly.{array_rule_exact, annotation_rule_exact}
use Rattle.encoded_value.proofs.Layers.{array_parts, annotation_parts}
use Rattle.encoded_value.proofs.Bounds.{Extent, Ends, uleb_extent, within_extent, named_within_extent, array_extent, annotation_extent}
use Rattle.encoded_value.proofs.Nested.{nested_array, nested_annotation}
use Rattle.decoded_value.specs.Shown.{shown}
use Rattle.value_bodies.specs.Bodies.{pick, array_count, array_value, annotation_noted, annotation_element}
use Rattle.annotation_items.specs.Items.{AnnotationItem}
use Rattle.class_ids.specs.declared.Class.{Class}
use Rattle.class_ids.specs.Rules.{ClassRule}
use Rattle.value_readers.specs.Bodies as B
use Rattle.value_readers.specs.Statics as R
use Rattle.class_walk.specs.Classes.{ClassBelow}
use Rattle.class_walk.specs.Rules.{ValuesRule}
use Rattle.whole_check.specs.File.{File}
use Rattle.promises.specs.Reads.{Reads}
use Rattle.promises.specs.Tables.{listed}
use Rattle.promises.specs.Annotations.{element_shown, ItemIn}
use Rattle.promises.specs.Values.{ValueIn, a_static, of_item, in_array, in-annotation, TopArray, ValueReaders}
use Rattle.promises.proofs.Asked.{pick_empty}
use Rattle.promises.proofs.Tables.{class_at_lem}
use Rattle.promises.proofs.Annotations.{section_short, item_in, opened, opened_within_lem}

-- ---- the lists inside a tree are told from it
listed_trees : Trees → List Tree
listed_trees no_tree = []
listed_trees (tree v vs) = v ∷ listed_trees vs

trees_back : (vs : List Tree) → listed_trees (trees vs) ≡ vs
unfolding listed_trees trees
trees_back [] = refl
trees_back (v ∷ vs) = ap (λ (l : List Tree). v ∷ l) (trees_back vs)

listed_elements : Elements → List Named
listed_elements no_element = []
listed_elements (element n v es) = record { name = n; value = v } ∷ listed_elements es

elements_back : (es : List Named) → listed_elements (elements_of es) ≡ es
unfolding listed_elements elements_of
elements_back [] = refl
elements_back (e ∷ es) = ap (λ (l : List Named). e ∷ l) (elements_back es)

-- ---- number k of a row stands at a place no earlier than the row's
pub row_at : {A : Type 0} {s : List ℕ} {P : ℕ → A → ℕ → Type 0} {n p q k : ℕ} {l : List A} {a : A} → Ends s P → Row P n p l q → At l k a → (x y : ℕ) × (P x a y × (p ≤ x))
row_at ends (first {from = p} {t = t} h r) here = (p, t, (h, omega arith))
row_at ends (first {a = b} {from = p} {t = t} h r) (there m) =
    let i = row_at ends r m in
    let e = (ends p b t h).after_place in
    let x = i.2.1 in
    (i.0, i.1, (i.2.0, omega arith))
row_at {A = A} {s = s} {P = P} {k = k} {a = a} ends (Rattle.refusal.specs.Exact.empty {from = from}) x11 = elim x11 [ ]

module _ (f : List ℕ) {r : File} (reads : Reads f r) where
  abbrev pub walk : ℕ → Walk
  walk item = walk_of (frame_of r.header r.map.handles.count) item

  -- ---- a body that stands in the data section, as an item of its own
  pub record ArrayThere (p q : ℕ) (vs : List Tree) : Type 0 where
    pub body : ArrayRule (up_to_end f r.header) (walk p) p vs q
    pub low : r.header.start ≤ p

  pub record BodyThere (item p q : ℕ) (a : Annotation) : Type 0 where
    pub body : AnnotationRule (up_to_end f r.header) (walk item) p a q
    pub low : r.header.start ≤ p

  -- and a value in it
  pub record ValueThere (v : Tree) : Type 0 where
    pub item : ℕ
    pub place : ℕ
    pub ends : ℕ
    pub low : r.header.start ≤ place
    pub rule : Value (up_to_end f r.header) (walk item) place v ends
    pub shallow : depth v ≤ deepest

  value_of_array : {p q k : ℕ} {vs : List Tree} {v : Tree} → ArrayThere p q vs → At vs k v → ValueThere v
  value_of_array {p} b m =
      let s = up_to_end f r.header in
      let parts = array_parts s (walk p) b.body.body b.body.shallow in
      let found = row_at (within_extent s (walk p) deepest_value) parts.row m in
      let e = (uleb_extent s (walk p) parts.uleb).after_place in
      let l = b.low in
      let x = found.2.1 in
      let d = found.2.0.1 in
      record { item = p; place = found.0; ends = found.1; low = omega arith; rule = found.2.0.0; shallow = omega arith }

  value_of_body : {item p q k : ℕ} {a : Annotation} {e : Named} → BodyThere item p q a → At a.elements k e → ValueThere e.value
  value_of_body {item} {p} b m =
      let s = up_to_end f r.header in
      let parts = annotation_parts s (walk item) b.body.body b.body.shallow in
      let found = row_at (named_within_extent s (walk item) deepest_value) parts.row m in
      let t = (uleb_extent s (walk item) parts.type_is.uleb).after_place in
      let n = (uleb_extent s (walk item) parts.uleb).after_place in
      let named = found.2.0 in
      let i = (uleb_extent s (walk item) named.name_is.uleb).after_place in
      let l = b.low in
      let x = found.2.1 in
      let d = named.value_is.1 in
      record { item = item; place = named.after_name; ends = found.1; low = omega arith; rule = named.value_is.0; shallow = omega arith }

  array_of_lem : {p q : ℕ} (vs : List Tree) → ValueThere (array p q (trees vs)) → ArrayThere p q vs
  array_of_lem {p} {q} vs v =
      let i = nested_array (up_to_end f r.header) (walk v.item) v.place v.ends p q (trees vs) v.rule v.shallow in
      let l = v.low in
      let x = i.1.2 in
      record {
        body = subst (λ (us : List Tree). ArrayRule (up_to_end f r.header) (walk p) p us q) (sym (trees_back i.0) ∙ ap listed_trees i.1.0 ∙ trees_back vs) i.1.1;
        low = omega arith;
      }

  pub body_of_lem : {p q t : ℕ} (es : List Named) → ValueThere (annotation p q t (elements_of es)) → BodyThere p p q (record { type_index = t; elements = es })
  body_of_lem {p} {q} {t} es v =
      let i = nested_annotation (up_to_end f r.header) (walk v.item) v.place v.ends p q t (elements_of es) v.rule v.shallow in
      let l = v.low in
      let x = i.1.3 in
      let same = sym (elements_back i.0.elements) ∙ ap listed_elements i.1.1 ∙ elements_back es in
      record {
        body = subst (λ (a : Annotation). AnnotationRule (up_to_end f r.header) (walk p) p a q) (λ j. record { type_index = i.1.0 j; elements = same j }) i.1.2;
        low = omega arith;
      }

  -- ---- static values
  abbrev StaticsThere : ℕ → Option (List Tree) → Type 0
  StaticsThere at o = Present (ValuesRule (up_to_end f r.header) (walk at) at) at o

  statics_low : {n : ℕ} {c : ClassBelow} → At r.classes n c → 0 < c.own.values → r.header.start ≤ c.own.values
  statics_low {n} {c} m p = go (subst (λ (d : Class). AllowedOrAbsent r.header.start r.header.end false d.values) own.stands own.rule.values)
    where
      own : ClassRule f (plain_frame r.header) r.header.end r.header.classes.offset n c.own
      own = (reads.classes.each m).own

      go : AllowedOrAbsent r.header.start r.header.end false c.own.values → r.header.start ≤ c.own.values
      go (inl e) = absurd (omega arith)
      go (inr a) = a.from

  static_there : {at : ℕ} {l : List Tree} → (0 < at → r.header.start ≤ at) → StaticsThere at (some l) → (e : ℕ) × ArrayThere at e l
  static_there low (found_there p rule) = (rule.ends, record { body = rule.body; low = low p })

  static_value_there : {at k : ℕ} {o : Option (List Tree)} {v : Tree} → (0 < at → r.header.start ≤ at) → StaticsThere at o → At (listed o) k v → ValueThere v
  static_value_there low (absent e) m = absurd (let l = at_below m in omega arith)
  static_value_there low (found_there p rule) m = value_of_array (static_there low (found_there p rule)).1 m

  -- ---- each value of the file stands in it
  pub item_body : {a : AnnotationItem} → ItemIn r a → (e : ℕ) × BodyThere a.place (a.place + 1) e a.annotation
  item_body i =
      let rule = (item_in f reads i).rule in
      let l = (item_in f reads i).allows.from in
      (rule.ends, record { body = rule.body; low = omega arith })

  pub value_in : {v : Tree} → ValueIn r v → ValueThere v
  value_in (a_static n m) = static_value_there (λ p. statics_low n p) (reads.classes.each n).values m
  value_in (of_item i m) = value_of_body (item_body i).1 m
  value_in (in_array {vs = vs} i m) = value_of_array (array_of_lem vs (value_in i)) m
  value_in (in-annotation {es = es} i m) = value_of_body (body_of_lem es (value_in i)) m

  -- ---- bodies asked for by place
  in-section : {p q : ℕ} → r.header.start ≤ p → Extent (up_to_end f r.header) p q → Allowed r.header.start r.header.end false p
  in-section low e =
      let short = section_short f reads in
      let after_place = e.after_place in
      let inside = e.inside in
      record { from = low; before_end = omega arith; multiple = λ e. absurd (false≢true e) }

  module _ {p q : ℕ} {vs : List Tree} (b : ArrayThere p q vs) where
    array_read : array_at (up_to_end f r.header) (walk p) deepest p ≡ answer (record { item = vs; next = q })
    array_read = (array_rule_exact (up_to_end f r.header) (walk p) p).complete (record { item = vs; next = q }) b.body

    array_allowed : Allowed r.header.start r.header.end false p
    array_allowed = in-section b.low (array_extent (up_to_end f r.header) (walk p) p vs q b.body.body)

    array_sized : B.array_of f p ≡ answer (record { count = length vs; length = q - p })
    unfolding B.array_of B.array_body array_count
    array_sized = bind_answer _ (opened_within_lem f reads array_allowed) ∙ bind_answer _ (bind_answer _ array_read) ∙ bind_answer _ (bind_answer _ array_read)

    array_valued : (k : ℕ) → B.array_value_of f p k ≡ (pick k vs >>= λ (v : Tree). answer (shown v))
    unfolding B.array_value_of array_value
    array_valued k = bind_answer _ (opened_within_lem f reads array_allowed) ∙ bind_answer _ array_read

  module _ {p q : ℕ} {a : Annotation} (b : BodyThere p p q a) where
    body_read : annotation_at (up_to_end f r.header) (walk p) deepest p ≡ answer (record { item = a; next = q })
    body_read = (annotation_rule_exact (up_to_end f r.header) (walk p) p).complete (record { item = a; next = q }) b.body

    body_allowed : Allowed r.header.start r.header.end false p
    body_allowed = in-section b.low (annotation_extent (up_to_end f r.header) (walk p) p a q b.body.body)

    body_sized : B.body_of f p ≡ answer (record { type_index = a.type_index; count = length a.elements; length = q - p })
    unfolding B.body_of B.noted_body annotation_noted
    body_sized = bind_answer _ (opened_within_lem f reads body_allowed) ∙ bind_answer _ (bind_answer _ body_read) ∙ bind_answer _ (bind_answer _ body_read)

    body_valued : (k : ℕ) → B.body_element_of f p k ≡ (pick k a.elements >>= λ (e : Named). answer (element_shown e))
    unfolding B.body_element_of annotation_element
    body_valued k = bind_answer _ (opened_within_lem f reads body_allowed) ∙ bind_answer _ body_read

  -- ---- static values by number
  statics_counted : {at : ℕ} {o : Option (List Tree)} → StaticsThere at o → R.values_in f r.header r.map.handles.count at ≡ answer (length (listed o))
  unfolding R.values_in array_count
  statics_counted {at} (absent e) = sym (leaves (array_count (up_to_end f r.header) (walk at) at) (le-ltb 0 at (omega arith)) refl)
  statics_counted {at} (found_there {a = l} p rule) =
      sym (picks (answer 0) (lt-ltb 0 at p) refl) ∙ bind_answer _ ((array_rule_exact (up_to_end f r.header) (walk at) at).complete (record { item = l; next = rule.ends }) rule.body)

  statics_numbered : {at : ℕ} {o : Option (List Tree)} → StaticsThere at o → (k : ℕ) → R.static_value_in f r.header r.map.handles.count at k ≡ (pick k (listed o) >>= λ (v : Tree). answer (shown v))
  unfolding R.static_value_in array_value
  statics_numbered {at} (absent e) k = sym (leaves (array_value (up_to_end f r.header) (walk at) at k) (le-ltb 0 at (omega arith)) refl) ∙ pick_empty k _
  statics_numbered {at} (found_there {a = l} p rule) k =
      sym (picks _ (lt-ltb 0 at p) refl) ∙ bind_answer _ ((array_rule_exact (up_to_end f r.header) (walk at) at).complete (record { item = l; next = rule.ends }) rule.body)

  top_there : {n : ℕ} {c : ClassBelow} {l : List Tree} → At r.classes n c → c.values ≡ some l → TopArray f r c.own.values l
  top_there {c = c} m e =
      let b = static_there (λ p. statics_low m p) (subst (StaticsThere c.own.values) e (reads.classes.each m).values) in
      record { ends = b.0; body = b.1.body; size = array_sized b.1; value = array_valued b.1 }

pub values_agree : (f : List ℕ) {r : File} → Reads f r → ValueReaders f r
unfolding R.static_count R.values_under R.static_value R.value_under
values_agree f {r} reads =
    record {
      static_count_lem = λ c. bind_answer _ (opened f reads) ∙ class_at_lem f reads c _ _ (λ b q. statics_counted f reads q.values);
      static_value_lem = λ c k. bind_answer _ (opened f reads) ∙ class_at_lem f reads c _ _ (λ b q. statics_numbered f reads q.values k);
      top_array = λ m e. top_there f reads m e;
      array_size = λ vs i. array_sized f reads (array_of_lem f reads vs (value_in f reads i));
      array_value_lem = λ vs i k. array_valued f reads (array_of_lem f reads vs (value_in f reads i)) k;
      body_size = λ es i. body_sized f reads (body_of_lem f reads es (value_in f reads i));
      body_element = λ es i k. body_valued f reads (body_of_lem f reads es (value_in f reads i)) k;
    }
