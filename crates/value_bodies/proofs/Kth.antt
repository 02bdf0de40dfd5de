-- In a body that obeys its rules the k-th is there for each k below the count, and is the tree's k-th; any other number is 7.
-- Assumes nothing.
use Prim.Native.Nat.{ℕ, ◌<◌, ◌≤◌}
use mathlib.Core.Path.{◌≡◌, ◌∙◌}
use mathlib.Core.List.{List}
use lib.ListN.{length}
use Rattle.refusal.specs.Refusals.{not_there}
use Rattle.refusal.specs.Outcome.{answer, refused}
use Rattle.refusal.specs.Exact.{At}
use Rattle.refusal.proofs.Laws.{bind_answer, bind_refused}
use Rattle.refusal.proofs.Each.{at_some}
use Rattle.value_heads.specs.declared.Walk.{Walk}
use Rattle.encoded_value.specs.Tree.{Tree, Named, Annotation}
use Rattle.encoded_value.specs.Depth.{deepest}
use Rattle.encoded_value.specs.Readings.{array_at, annotation_at}
use Rattle.encoded_value.specs.Rules.{ArrayRule, AnnotationRule}
use Rattle.encoded_value.proofs.Exactly.{array_rule_exact, annotation_rule_exact}
use Rattle.decoded_value.specs.Shown.{shown}
use Rattle.value_bodies.specs.Bodies.{array_count, array_value, annotation_noted, annotation_element}
use Rattle.value_bodies.proofs.Picks.{pick_there, pick_none}

module _ (s : List ℕ) (w : Walk) (p q : ℕ) (vs : List Tree) (h : ArrayRule s w p vs q) where
  read : array_at s w deepest p ≡ answer (record { item = vs; next = q })
  read = (array_rule_exact s w p).complete (record { item = vs; next = q }) h

  pub array_counted : array_count s w p ≡ answer (length vs)
  unfolding array_count
  array_counted = bind_answer _ read

  pub array_kth : (k : ℕ) (v : Tree) → At vs k v → array_value s w p k ≡ answer (shown v)
  unfolding array_value
  array_kth k v m = bind_answer _ read ∙ bind_answer _ (pick_there m)

  pub array_there : (k : ℕ) → k < length vs → (v : Tree) × (At vs k v × (array_value s w p k ≡ answer (shown v)))
  array_there k l = let a = at_some vs k l in (a.0, (a.1, array_kth k a.0 a.1))

  pub array_past : (k : ℕ) → length vs ≤ k → array_value s w p k ≡ refused not_there
  unfolding array_value
  array_past k l = bind_answer _ read ∙ bind_refused _ (pick_none vs k l)

module _ (s : List ℕ) (w : Walk) (p q : ℕ) (a : Annotation) (h : AnnotationRule s w p a q) where
  read_noted : annotation_at s w deepest p ≡ answer (record { item = a; next = q })
  read_noted = (annotation_rule_exact s w p).complete (record { item = a; next = q }) h

  pub annotation_counted : annotation_noted s w p ≡ answer (record { type_index = a.type_index; count = length a.elements })
  unfolding annotation_noted
  annotation_counted = bind_answer _ read_noted

  pub annotation_kth : (k : ℕ) (e : Named) → At a.elements k e → annotation_element s w p k ≡ answer (record { name = e.name; value = shown e.value })
  unfolding annotation_element
  annotation_kth k e m = bind_answer _ read_noted ∙ bind_answer _ (pick_there m)

  pub annotation_there : (k : ℕ) → k < length a.elements → (e : Named) × (At a.elements k e × (annotation_element s w p k ≡ answer (record { name = e.name; value = shown e.value })))
  annotation_there k l = let m = at_some a.elements k l in (m.0, (m.1, annotation_kth k m.0 m.1))

  pub annotation_past : (k : ℕ) → length a.elements ≤ k → annotation_element s w p k ≡ refused not_there
  unfolding annotation_element
  annotation_past k l = bind_answer _ read_noted ∙ bind_refused _ (pick_none a.elements k l)
