-- Laws of the rules: a value or a body ends after its place and within the slice.
-- Assumes nothing.
use Prim.Native.Nat.{ℕ, ◌<◌, ◌≤◌}
use mathlib.Core.Path.{◌≡◌, sym, subst}
use mathlib.Core.List.{List}
use lib.ListN.{length}
use native.Mathlib.Omega.{arith}
use Rattle.refusal.specs.Outcome.{answer, ◌>>=◌}
use Rattle.refusal.specs.Rows.{Found, past}
use Rattle.refusal.proofs.Rows.{past_answer}
use Rattle.leb128.specs.Rules.{Uleb}
use Rattle.leb128.proofs.Exactly.{uleb_exact}
use Rattle.leb128.proofs.Laws.{uleb_span}
use Rattle.value_heads.specs.declared.Walk.{Walk}
use Rattle.encoded_value.specs.Tree.{Tree, Named, Annotation}
use Rattle.encoded_value.specs.Readings.{array_at, annotation_at}
use Rattle.encoded_value.specs.Rules.{Value, an_array, an_annotation, no_body, ArrayBody, array_body, AnnotationBody, annotation_body, NamedValue, a_named, ValueRow, no_value, next_value, NamedRow, no_named, next_named}
use Rattle.encoded_value.proofs.Layers.{Within, NamedWithin}
use Rattle.encoded_value.proofs.Exactly.{array_exact, annotation_exact}

-- ---- where they end
pub record Extent (s : List ℕ) (p q : ℕ) : Type 0 where
  pub after_place : p < q
  pub inside : q ≤ length s

-- what it speaks of ends after its place and within the slice
abbrev pub Ends : {A : Type 0} → List ℕ → (ℕ → A → ℕ → Type 0) → Type 0
Ends {A} s P = (p : ℕ) (a : A) (q : ℕ) → P p a q → Extent s p q

module _ (s : List ℕ) (w : Walk) where
  pub uleb_extent : {p : ℕ} {r : Found ℕ ℕ} → Uleb s p r → Extent s p r.next
  uleb_extent {p} {r} h = let e = uleb_span s 0 p ((uleb_exact s 0 p).complete r h) in record { after_place = e.after_place; inside = e.inside }

  mutual
    value_span : {p q : ℕ} {v : Tree} → Value s w p v q → Extent s p q
    value_span (an_array i c k e) = let b = array_span k in let x = b.after_place in record { after_place = omega arith; inside = b.inside }
    value_span (an_annotation i c k e) = let b = annotation_span k in let x = b.after_place in record { after_place = omega arith; inside = b.inside }
    value_span (no_body i n m k) = let x = k.bytes.stands.ends in record { after_place = omega arith; inside = k.bytes.stands.inside }

    array_span : {p q : ℕ} {vs : List Tree} → ArrayBody s w p vs q → Extent s p q
    array_span (array_body u r) =
        let e = uleb_extent u in
        let t = row_span r e.inside in
        let x = e.after_place in
        let y = t.0 in
        record { after_place = omega arith; inside = t.1 }

    annotation_span : {p q : ℕ} {a : Annotation} → AnnotationBody s w p a q → Extent s p q
    annotation_span (annotation_body i u r) =
        let e = uleb_extent u in
        let t = named_row_span r e.inside in
        let x = (uleb_extent i.uleb).after_place in
        let y = e.after_place in
        let z = t.0 in
        record { after_place = omega arith; inside = t.1 }

    named_span : {p q : ℕ} {e : Named} → NamedValue s w p e q → Extent s p q
    named_span (a_named i h) = let e = value_span h in let x = (uleb_extent i.uleb).after_place in let y = e.after_place in record { after_place = omega arith; inside = e.inside }

    row_span : {n p q : ℕ} {vs : List Tree} → ValueRow s w n p vs q → p ≤ length s → (p ≤ q) × (q ≤ length s)
    row_span no_value l = (omega arith, l)
    row_span (next_value h r) l =
        let e = value_span h in
        let t = row_span r e.inside in
        let x = e.after_place in
        let y = t.0 in
        (omega arith, t.1)

    named_row_span : {n p q : ℕ} {es : List Named} → NamedRow s w n p es q → p ≤ length s → (p ≤ q) × (q ≤ length s)
    named_row_span no_named l = (omega arith, l)
    named_row_span (next_named h r) l =
        let e = named_span h in
        let t = named_row_span r e.inside in
        let x = e.after_place in
        let y = t.0 in
        (omega arith, t.1)

  pub array_extent : Ends s (ArrayBody s w)
  array_extent p vs q h = array_span h

  pub annotation_extent : Ends s (AnnotationBody s w)
  annotation_extent p a q h = annotation_span h

  -- the same of what stands in a row
  pub within_extent : (left : ℕ) → Ends s (Within s w left)
  within_extent left p v q h = value_span h.0

  pub named_within_extent : (left : ℕ) → Ends s (NamedWithin s w left)
  named_within_extent left p e q h = named_span (a_named h.name_is h.value_is.0)

  -- the same, from what a call answered
  pub array_ends : (left p : ℕ) {q : ℕ} → answer q ≡ (array_at s w left p >>= past) → Extent s p q
  array_ends left p e =
      let r = past_answer (array_at s w left p) e in
      subst (Extent s p) r.1.1 (array_span ((array_exact s w left p).sound r.0 (sym r.1.0)).0)

  pub annotation_ends : (left p : ℕ) {q : ℕ} → answer q ≡ (annotation_at s w left p >>= past) → Extent s p q
  annotation_ends left p e =
      let r = past_answer (annotation_at s w left p) e in
      subst (Extent s p) r.1.1 (annotation_span ((annotation_exact s w left p).sound r.0 (sym r.1.0)).0)
