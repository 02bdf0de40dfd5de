-- The rules taken apart one layer at a time: a body's values as a row, none deeper than what may still be opened.
-- Assumes nothing.
use Prim.Native.Nat.{ℕ, suc, ◌≤◌}
use mathlib.Core.List.{List}
use native.Mathlib.Omega.{arith}
use Rattle.refusal.specs.Rows.{Found}
use Rattle.refusal.specs.Exact.{Row, empty, first}
use Rattle.leb128.specs.Rules.{Uleb}
use Rattle.value_heads.specs.declared.Walk.{Walk}
use Rattle.value_heads.specs.Rules.{IndexRule}
use Rattle.encoded_value.specs.Tree.{Tree, Named, Annotation, trees, elements_of}
use Rattle.encoded_value.specs.Depth.{depth, trees_depth, elements_depth, array_depth, annotation_depth}
use Rattle.encoded_value.specs.Rules.{Value, ArrayBody, array_body, AnnotationBody, annotation_body, NamedValue, a_named, ValueRow, no_value, next_value, NamedRow, no_named, next_named}

module _ (s : List ℕ) (w : Walk) where
  -- a value, and a named value, in which at most so many bodies lie one inside the other
  abbrev pub Within : ℕ → ℕ → Tree → ℕ → Type 0
  Within left p v q = Value s w p v q × (depth v ≤ left)

  pub record NamedWithin (left p : ℕ) (e : Named) (q : ℕ) : Type 0 where
    pub after_name : ℕ
    pub name_is : IndexRule s w.strings p (record { item = e.name; next = after_name })
    pub value_is : Within left after_name e.value q

  -- a body of them
  pub record ArrayWithin (left p : ℕ) (vs : List Tree) (q : ℕ) : Type 0 where
    pub size : Found ℕ ℕ
    pub uleb : Uleb s p size
    pub row : Row (Within left) size.item size.next vs q

  pub record AnnotationWithin (left p : ℕ) (a : Annotation) (q : ℕ) : Type 0 where
    pub after_type : ℕ
    pub type_is : IndexRule s w.types p (record { item = a.type_index; next = after_type })
    pub size : Found ℕ ℕ
    pub uleb : Uleb s after_type size
    pub row : Row (NamedWithin left) size.item size.next a.elements q

  module _ {left : ℕ} where
    -- ---- rows
    row_parts : {n p q : ℕ} {vs : List Tree} → ValueRow s w n p vs q → trees_depth (trees vs) ≤ left → Row (Within left) n p vs q
    unfolding depth trees
    row_parts no_value d = empty
    row_parts (next_value h r) d = first (h, omega arith) (row_parts r (omega arith))

    row_whole : {n p q : ℕ} {vs : List Tree} → Row (Within left) n p vs q → ValueRow s w n p vs q × (trees_depth (trees vs) ≤ left)
    unfolding depth trees
    row_whole empty = (no_value, omega arith)
    row_whole (first h r) =
        let rest = row_whole r in
        let here = h.1 in
        let there = rest.1 in
        (next_value h.0 rest.0, omega arith)

    named_parts : {p q : ℕ} {e : Named} → NamedValue s w p e q → depth e.value ≤ left → NamedWithin left p e q
    named_parts (a_named {from = from} i h) d = record { after_name = from; name_is = i; value_is = (h, d) }

    named_whole : {p q : ℕ} {e : Named} → NamedWithin left p e q → NamedValue s w p e q
    named_whole h = a_named h.name_is h.value_is.0

    named_row_parts : {n p q : ℕ} {es : List Named} → NamedRow s w n p es q → elements_depth (elements_of es) ≤ left → Row (NamedWithin left) n p es q
    unfolding depth elements_of
    named_row_parts no_named d = empty
    named_row_parts (next_named h r) d = first (named_parts h (omega arith)) (named_row_parts r (omega arith))

    named_row_whole : {n p q : ℕ} {es : List Named} → Row (NamedWithin left) n p es q → NamedRow s w n p es q × (elements_depth (elements_of es) ≤ left)
    unfolding depth elements_of
    named_row_whole empty = (no_named, omega arith)
    named_row_whole (first h r) =
        let rest = named_row_whole r in
        let here = h.value_is.1 in
        let there = rest.1 in
        (next_named (named_whole h) rest.0, omega arith)

    -- ---- bodies
    pub array_parts : {p q : ℕ} {vs : List Tree} → ArrayBody s w p vs q → array_depth vs ≤ suc left → ArrayWithin left p vs q
    array_parts (array_body {size = size} u r) d = record { size = size; uleb = u; row = row_parts r (omega arith) }

    pub array_whole : {p q : ℕ} {vs : List Tree} → ArrayWithin left p vs q → ArrayBody s w p vs q × (array_depth vs ≤ suc left)
    array_whole h = let r = row_whole h.row in let d = r.1 in (array_body h.uleb r.0, omega arith)

    pub annotation_parts : {p q : ℕ} {a : Annotation} → AnnotationBody s w p a q → annotation_depth a ≤ suc left → AnnotationWithin left p a q
    annotation_parts (annotation_body {from = from} {size = size} t u r) d = record { after_type = from; type_is = t; size = size; uleb = u; row = named_row_parts r (omega arith) }

    pub annotation_whole : {p q : ℕ} {a : Annotation} → AnnotationWithin left p a q → AnnotationBody s w p a q × (annotation_depth a ≤ suc left)
    annotation_whole h = let r = named_row_whole h.row in let d = r.1 in (annotation_body h.type_is h.uleb r.0, omega arith)
