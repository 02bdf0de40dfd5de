-- The readings find exactly what the rules allow: which bytes encode which tree, and no other tree.
-- Assumes nothing.
use Prim.Native.Nat.{ℕ, zero, suc, max, ◌+◌, ◌%◌, ◌/◌, ◌<◌, ◌≤◌}
use mathlib.Core.Path.{◌≡◌, refl, sym, subst}
use mathlib.Core.Logic.{◌⊎◌, inl, inr}
use mathlib.Core.Bool.{Bool, true, false, cond}
use mathlib.Core.List.{List}
use native.Mathlib.Omega.{arith}
use Rattle.refusal.specs.Refusals.{wrong_index}
use Rattle.refusal.specs.Outcome.{Outcome}
use Rattle.refusal.specs.Rows.{Found}
use Rattle.refusal.specs.Exact.{Exact}
use Rattle.refusal.proofs.Exact.{same, never, equal, given_exact, answer_exact, bind_exact, either_exact, exact_iff}
use Rattle.refusal.proofs.Rows.{collect_exact}
use Rattle.leb128.proofs.Exactly.{uleb_exact}
use Rattle.value_heads.specs.declared.Walk.{Walk}
use Rattle.value_heads.specs.Kinds.{bytes_of, count_of}
use Rattle.value_heads.specs.Readings.{checked_at}
use Rattle.value_heads.specs.Rules.{HeadByteRule, NumberRule}
use Rattle.value_heads.proofs.Exactly.{head_exact, number_exact, range_decides, index_exact}
use Rattle.encoded_value.specs.Tree.{Tree, Named, Annotation, array, annotation, trees, elements_of, rest_of, plain_of}
use Rattle.encoded_value.specs.Depth.{deepest, depth, array_depth, annotation_depth}
use Rattle.encoded_value.specs.Readings.{plain_at, array_with, named_with, annotation_with, kind_with, value_with, too_deep, value_at, array_at, annotation_at}
use Rattle.encoded_value.specs.Rules.{Plain, Value, an_array, an_annotation, no_body, ArrayBody, AnnotationBody, ArrayRule, AnnotationRule}
use Rattle.encoded_value.proofs.Layers.{Within, NamedWithin, array_parts, array_whole, annotation_parts, annotation_whole}

-- ---- a value that is no body has depth 0
depth_cond : (b : Bool) (v u : Tree) → depth (cond b v u) ≡ cond b (depth v) (depth u)
depth_cond true v u = refl
depth_cond false v u = refl

cond_same : (b : Bool) → ◌≡◌ {A = ℕ} (cond b 0 0) 0
cond_same true = refl
cond_same false = refl

pub plain_depth : (code argument x : ℕ) → depth (plain_of code argument x) ≡ 0
unfolding plain_of rest_of depth
plain_depth code argument x = simp (depth_cond, cond_same)

module _ (s : List ℕ) (w : Walk) where
  pub plain_exact : (h p : ℕ) → Exact (plain_at s w h p) (λ (r : Found Tree ℕ). Plain s w h p r.item r.next)
  unfolding plain_at checked_at
  plain_exact h p =
      exact_iff
      (bind_exact _ _ (bind_exact _ _ (number_exact s w.item p (bytes_of h)) (λ n. given_exact (wrong_index w.item) (range_decides w (h % 32) n.item) (answer_exact n))) (λ n. answer_exact _))
      (λ r k. subst (λ (x : Found Tree ℕ). Plain s w h p x.item x.next) k.1.1 (checked k.0 k.1.0))
      (λ r k. (record { item = k.number; next = r.next }, ((record { item = k.number; next = r.next }, (k.bytes, (k.range, refl))), λ i. record { item = k.value i; next = r.next })))
    where
      Range : ℕ → Type 0
      Range x = (0x15 ≤ h % 32) × (h % 32 < 0x1c) → x < count_of w (h % 32)

      checked : (n : Found ℕ ℕ) → (m : Found ℕ ℕ) × (NumberRule s p (bytes_of h) m × (Range m.item × (m ≡ n))) → Plain s w h p (plain_of (h % 32) (h / 32) n.item) n.next
      checked n k =
          subst (λ (x : Found ℕ ℕ). Plain s w h p (plain_of (h % 32) (h / 32) x.item) x.next) k.1.1.1
          (record { number = k.0.item; bytes = k.1.0; range = k.1.1.0; value = refl })

  -- ---- a layer over values of which each may open so many bodies
  module _ (left : ℕ) (exact : (p : ℕ) → Exact (value_at s w left p) (λ (r : Found Tree ℕ). Within s w left p r.item r.next)) where
    array_layer : (p : ℕ) → Exact (array_with s w (value_at s w left) p) (λ (r : Found (List Tree) ℕ). ArrayBody s w p r.item r.next × (array_depth r.item ≤ suc left))
    unfolding array_with
    array_layer p =
        exact_iff (bind_exact _ _ (uleb_exact s w.item p) (λ n. collect_exact (value_at s w left) (Within s w left) exact n.item n.next))
        (λ r k. array_whole s w (record { size = k.0; uleb = k.1.0; row = k.1.1 }))
        (λ r k. let h = array_parts s w k.0 k.1 in (h.size, (h.uleb, h.row)))

    named_layer : (p : ℕ) → Exact (named_with s w (value_at s w left) p) (λ (r : Found Named ℕ). NamedWithin s w left p r.item r.next)
    unfolding named_with
    named_layer p =
        exact_iff
        (bind_exact _ _ (index_exact s w.item w.strings p)
        (λ n. bind_exact _ (λ (v : Found Tree ℕ) (r : Found Named ℕ). record { item = record { name = n.item; value = v.item }; next = v.next } ≡ r) (exact n.next) (λ v. answer_exact _)))
        (λ r k. subst (λ (x : Found Named ℕ). NamedWithin s w left p x.item x.next) k.1.1.1.1 (record { after_name = k.0.next; name_is = k.1.0; value_is = k.1.1.1.0 }))
        (λ r k. (record { item = r.item.name; next = k.after_name }, (k.name_is, (record { item = r.item.value; next = r.next }, (k.value_is, refl)))))

    annotation_layer : (p : ℕ) → Exact (annotation_with s w (value_at s w left) p) (λ (r : Found Annotation ℕ). AnnotationBody s w p r.item r.next × (annotation_depth r.item ≤ suc left))
    unfolding annotation_with
    annotation_layer p =
        exact_iff
        (bind_exact _ _ (index_exact s w.item w.types p)
        (λ t. bind_exact _ _ (uleb_exact s w.item t.next)
        (λ n. bind_exact _ (λ (es : Found (List Named) ℕ) (r : Found Annotation ℕ). record { item = record { type_index = t.item; elements = es.item }; next = es.next } ≡ r)
        (collect_exact (named_with s w (value_at s w left)) (NamedWithin s w left) named_layer n.item n.next) (λ es. answer_exact _))))
        (λ r k. subst (λ (x : Found Annotation ℕ). AnnotationBody s w p x.item x.next × (annotation_depth x.item ≤ suc left)) k.1.1.1.1.1.1
        (annotation_whole s w (record { after_type = k.0.next; type_is = k.1.0; size = k.1.1.0; uleb = k.1.1.1.0; row = k.1.1.1.1.1.0 })))
        (λ r k. let h = annotation_parts s w k.0 k.1 in
        (record { item = r.item.type_index; next = h.after_type }, (h.type_is, (h.size, (h.uleb, (record { item = r.item.elements; next = r.next }, (h.row, refl)))))))

  -- ---- a value over the bodies that it may be
  module _ (left : ℕ) (body : ℕ → Outcome (Found (List Tree) ℕ)) (noted : ℕ → Outcome (Found Annotation ℕ))
      (body_exact : (p : ℕ) → Exact (body p) (λ (r : Found (List Tree) ℕ). ArrayBody s w p r.item r.next × (array_depth r.item ≤ left)))
      (noted-exact : (p : ℕ) → Exact (noted p) (λ (r : Found Annotation ℕ). AnnotationBody s w p r.item r.next × (annotation_depth r.item ≤ left))) (p : ℕ) where
    abbrev Opened : Found Tree ℕ → Type 0
    Opened r = (b : Found (List Tree) ℕ) × ((ArrayBody s w (p + 1) b.item b.next × (array_depth b.item ≤ left)) × (record { item = array (p + 1) b.next (trees b.item); next = b.next } ≡ r))

    abbrev Annotated : Found Tree ℕ → Type 0
    Annotated r =
        (b : Found Annotation ℕ) × ((AnnotationBody s w (p + 1) b.item b.next × (annotation_depth b.item ≤ left)) × (record { item = annotation (p + 1) b.next b.item.type_index (elements_of b.item.elements); next = b.next } ≡ r))

    abbrev Ways : ℕ → Found Tree ℕ → Type 0
    Ways h r = ((h % 32 ≡ 0x1c) × Opened r) ⊎ ((h % 32 ≡ 0x1c → ⊥) × (((h % 32 ≡ 0x1d) × Annotated r) ⊎ ((h % 32 ≡ 0x1d → ⊥) × Plain s w h (p + 1) r.item r.next)))

    kind_exact : (h : ℕ) → Exact (kind_with s w body noted h (p + 1)) (Ways h)
    unfolding kind_with
    kind_exact h =
        either_exact (equal (h % 32) 0x1c)
        (bind_exact _ (λ (b : Found (List Tree) ℕ) (r : Found Tree ℕ). record { item = array (p + 1) b.next (trees b.item); next = b.next } ≡ r) (body_exact (p + 1)) (λ b. answer_exact _))
        (either_exact (equal (h % 32) 0x1d)
        (bind_exact _ (λ (b : Found Annotation ℕ) (r : Found Tree ℕ). record { item = annotation (p + 1) b.next b.item.type_index (elements_of b.item.elements); next = b.next } ≡ r) (noted-exact (p + 1)) (λ b. answer_exact _))
        (plain_exact h (p + 1)))

    value_there : (h : ℕ) → HeadByteRule s p h → (r : Found Tree ℕ) → Ways h r → Within s w left p r.item r.next
    unfolding depth
    value_there h i r (inl k) = subst (λ (x : Found Tree ℕ). Within s w left p x.item x.next) k.1.1.1 (an_array i k.0 k.1.1.0.0 refl, k.1.1.0.1)
    value_there h i r (inr (n, inl k)) = subst (λ (x : Found Tree ℕ). Within s w left p x.item x.next) k.1.1.1 (an_annotation i k.0 k.1.1.0.0 refl, k.1.1.0.1)
    value_there h i r (inr (n, inr k)) = (no_body i n k.0 k.1, subst (λ (v : Tree). depth v ≤ left) k.1.value (let z = plain_depth (h % 32) (h / 32) k.1.number in omega arith))

    value_back : (v : Tree) (q : ℕ) → Value s w p v q → depth v ≤ left → (h : ℕ) × (HeadByteRule s p h × Ways h (record { item = v; next = q }))
    unfolding depth
    value_back v q (an_array {h = h} {vs = vs} i c k e) d =
        (h, (i, inl (c, (record { item = vs; next = q }, ((k, subst (λ (x : Tree). depth x ≤ left) (sym e) d), λ j. record { item = e j; next = q })))))
    value_back v q (an_annotation {h = h} {a = a} i c k e) d =
        (h, (i, inr (λ n. omega arith, inl (c, (record { item = a; next = q }, ((k, subst (λ (x : Tree). depth x ≤ left) (sym e) d), λ j. record { item = e j; next = q }))))))
    value_back v q (no_body {h = h} i n m k) d = (h, (i, inr (n, inr (m, k))))

    value_layer : Exact (value_with s w body noted p) (λ (r : Found Tree ℕ). Within s w left p r.item r.next)
    unfolding value_with
    value_layer =
        exact_iff (bind_exact _ _ (head_exact s w.item p) kind_exact)
        (λ r k. value_there k.0 k.1.0 r k.1.1)
        (λ r k. value_back r.item r.next k.0 k.1)

  -- no body has depth 0
  no_array : (p : ℕ) → Exact (too_deep s w {A = Found (List Tree) ℕ} p) (λ (r : Found (List Tree) ℕ). ArrayBody s w p r.item r.next × (array_depth r.item ≤ 0))
  no_array p = record { sound = λ r e. absurd (never e); complete = λ r h. absurd (let z = h.1 in omega arith) }

  no_annotation : (p : ℕ) → Exact (too_deep s w {A = Found Annotation ℕ} p) (λ (r : Found Annotation ℕ). AnnotationBody s w p r.item r.next × (annotation_depth r.item ≤ 0))
  no_annotation p = record { sound = λ r e. absurd (never e); complete = λ r h. absurd (let z = h.1 in omega arith) }

  -- ---- with so many bodies that may still be opened, the reading answers what the rule allows and is no deeper than that
  pub value_exact : (left p : ℕ) → Exact (value_at s w left p) (λ (r : Found Tree ℕ). Value s w p r.item r.next × (depth r.item ≤ left))
  unfolding value_at
  value_exact zero p = value_layer zero (too_deep s w) (too_deep s w) no_array no_annotation p
  value_exact (suc left) p =
      value_layer (suc left) (array_with s w (value_at s w left)) (annotation_with s w (value_at s w left)) (array_layer left (value_exact left)) (annotation_layer left (value_exact left)) p

  pub named_exact : (left p : ℕ) → Exact (named_with s w (value_at s w left) p) (λ (r : Found Named ℕ). NamedWithin s w left p r.item r.next)
  named_exact left = named_layer left (value_exact left)

  pub array_exact : (left p : ℕ) → Exact (array_at s w left p) (λ (r : Found (List Tree) ℕ). ArrayBody s w p r.item r.next × (array_depth r.item ≤ left))
  unfolding array_at
  array_exact zero p = no_array p
  array_exact (suc left) p = array_layer left (value_exact left) p

  pub annotation_exact : (left p : ℕ) → Exact (annotation_at s w left p) (λ (r : Found Annotation ℕ). AnnotationBody s w p r.item r.next × (annotation_depth r.item ≤ left))
  unfolding annotation_at
  annotation_exact zero p = no_annotation p
  annotation_exact (suc left) p = annotation_layer left (value_exact left) p

  -- top bodies
  pub array_rule_exact : (p : ℕ) → Exact (array_at s w deepest p) (λ (r : Found (List Tree) ℕ). ArrayRule s w p r.item r.next)
  array_rule_exact p = exact_iff (array_exact deepest p) (λ r h. record { body = h.0; shallow = h.1 }) (λ r h. (h.body, h.shallow))

  pub annotation_rule_exact : (p : ℕ) → Exact (annotation_at s w deepest p) (λ (r : Found Annotation ℕ). AnnotationRule s w p r.item r.next)
  annotation_rule_exact p = exact_iff (annotation_exact deepest p) (λ r h. record { body = h.0; shallow = h.1 }) (λ r h. (h.body, h.shallow))

  -- ---- any two trees of one place are equal, with their ends, however deep they are
  pub value_same : (p : ℕ) (a b : Found Tree ℕ) → Value s w p a.item a.next → Value s w p b.item b.next → a ≡ b
  value_same p a b h k = same (value_exact (max (depth a.item) (depth b.item)) p) a b (h, omega arith) (k, omega arith)

  pub array_same : (p : ℕ) (a b : Found (List Tree) ℕ) → ArrayBody s w p a.item a.next → ArrayBody s w p b.item b.next → a ≡ b
  array_same p a b h k = same (array_exact (max (array_depth a.item) (array_depth b.item)) p) a b (h, omega arith) (k, omega arith)

  pub annotation_same : (p : ℕ) (a b : Found Annotation ℕ) → AnnotationBody s w p a.item a.next → AnnotationBody s w p b.item b.next → a ≡ b
  annotation_same p a b h k = same (annotation_exact (max (annotation_depth a.item) (annotation_depth b.item)) p) a b (h, omega arith) (k, omega arith)
