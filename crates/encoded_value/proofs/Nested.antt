-- Laws of the rules: they hold for another item too, so that a nested body can be asked for by place.
-- Assumes nothing.
use Prim.Native.Nat.{ℕ, suc, ◌+◌, ◌%◌, ◌/◌, ◌≤◌}
use mathlib.Core.Path.{◌≡◌, refl, ap, sym, subst}
use mathlib.Core.List.{List}
use native.Mathlib.Omega.{arith}
use Rattle.value_heads.specs.declared.Walk.{Walk}
use Rattle.value_heads.specs.Kinds.{moved, count_of}
use Rattle.encoded_value.specs.Tree.{Tree, Trees, Elements, Named, Annotation, array, annotation, trees, elements_of}
use Rattle.encoded_value.specs.Depth.{deepest, depth, trees_depth, elements_depth}
use Rattle.encoded_value.specs.Rules.{Plain, Value, an_array, an_annotation, no_body, ArrayBody, array_body, AnnotationBody, annotation_body, NamedValue, a_named, ValueRow, no_value, next_value, NamedRow, no_named, next_named, ArrayRule, AnnotationRule}
use Rattle.encoded_value.proofs.Exactly.{plain_depth}

-- ---- for another item: a rule names the counts that indices are tested by, and not the item
module _ (s : List ℕ) (w : Walk) (i : ℕ) where
  plain_moved : {h p q : ℕ} {v : Tree} → Plain s w h p v q → Plain s (moved w i) h p v q
  unfolding count_of
  plain_moved k = record { number = k.number; bytes = k.bytes; range = k.range; value = k.value }

  mutual
    pub value_moved : {p q : ℕ} {v : Tree} → Value s w p v q → Value s (moved w i) p v q
    value_moved (an_array h c k e) = an_array h c (array_moved k) e
    value_moved (an_annotation h c k e) = an_annotation h c (annotation_moved k) e
    value_moved (no_body h n m k) = no_body h n m (plain_moved k)

    pub array_moved : {p q : ℕ} {vs : List Tree} → ArrayBody s w p vs q → ArrayBody s (moved w i) p vs q
    array_moved (array_body u r) = array_body u (row_moved r)

    pub annotation_moved : {p q : ℕ} {a : Annotation} → AnnotationBody s w p a q → AnnotationBody s (moved w i) p a q
    annotation_moved (annotation_body t u r) = annotation_body t u (named_row_moved r)

    named_moved : {p q : ℕ} {e : Named} → NamedValue s w p e q → NamedValue s (moved w i) p e q
    named_moved (a_named n h) = a_named n (value_moved h)

    row_moved : {n p q : ℕ} {vs : List Tree} → ValueRow s w n p vs q → ValueRow s (moved w i) n p vs q
    row_moved no_value = no_value
    row_moved (next_value h r) = next_value (value_moved h) (row_moved r)

    named_row_moved : {n p q : ℕ} {es : List Named} → NamedRow s w n p es q → NamedRow s (moved w i) n p es q
    named_row_moved no_named = no_named
    named_row_moved (next_named h r) = next_named (named_moved h) (named_row_moved r)

-- ---- a nested body stands behind its head byte, and obeys the rules at its own place as an item of its own, at depth 1
module _ (s : List ℕ) (w : Walk) where
  no_plain_body : {h p q n : ℕ} {v : Tree} → Plain s w h p v q → depth v ≡ suc n → ⊥
  no_plain_body {h} k e = let z = plain_depth (h % 32) (h / 32) k.number in let y = ap depth k.value in omega arith

  pub nested_array : (p q a e : ℕ) (ts : Trees) → Value s w p (array a e ts) q → depth (array a e ts) ≤ deepest → (vs : List Tree) × ((trees vs ≡ ts) × ArrayRule s (moved w a) a vs e × (p + 1 ≡ a))
  unfolding depth
  nested_array p q a e ts (an_array {vs = vs} h c k z) d =
      let place : p + 1 ≡ a = cc in
      let end : q ≡ e = cc in
      let same : trees vs ≡ ts = cc in (
        vs,
        (
          same,
          record {
            body = subst (λ (x : ℕ). ArrayBody s (moved w a) x vs e) place (subst (λ (x : ℕ). ArrayBody s (moved w a) (p + 1) vs x) end (array_moved s w a k));
            shallow = subst (λ (x : Trees). suc (trees_depth x) ≤ deepest) (sym same) d;
          },
          place,
        ),
      )
  nested_array p q a e ts (an_annotation h c k z) d = absurd (let x : ◌≡◌ {A = ℕ} 0 1 = cc in omega arith)
  nested_array p q a e ts (no_body h n m k) d = absurd (no_plain_body k refl)

  pub nested_annotation : (p q a e t : ℕ) (es : Elements) → Value s w p (annotation a e t es) q → depth (annotation a e t es) ≤ deepest
      → (v : Annotation) × ((v.type_index ≡ t) × (elements_of v.elements ≡ es) × AnnotationRule s (moved w a) a v e × (p + 1 ≡ a))
  unfolding depth
  nested_annotation p q a e t es (an_array h c k z) d = absurd (let x : ◌≡◌ {A = ℕ} 0 1 = cc in omega arith)
  nested_annotation p q a e t es (an_annotation {a = v} h c k z) d =
      let place : p + 1 ≡ a = cc in
      let end : q ≡ e = cc in
      let type_is : v.type_index ≡ t = cc in
      let same : elements_of v.elements ≡ es = cc in (
        v,
        (
          type_is,
          same,
          record {
            body = subst (λ (x : ℕ). AnnotationBody s (moved w a) x v e) place (subst (λ (x : ℕ). AnnotationBody s (moved w a) (p + 1) v x) end (annotation_moved s w a k));
            shallow = subst (λ (x : Elements). suc (elements_depth x) ≤ deepest) (sym same) d;
          },
          place,
        ),
      )
  nested_annotation p q a e t es (no_body h n m k) d = absurd (no_plain_body k refl)
