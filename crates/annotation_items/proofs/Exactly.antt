-- The reading of the annotation item finds exactly what the rule allows, and no two things at one place.
-- Assumes nothing.
use Prim.Native.Nat.{ℕ, ◌+◌, ◌≤◌, ◌<◌}
use mathlib.Core.Path.{◌≡◌, refl, sym, subst}
use mathlib.Core.List.{List}
use lib.ListN.{length, get_or}
use Rattle.refusal.specs.Refusals.{runs_past, unknown_kind}
use Rattle.refusal.specs.Exact.{Exact}
use Rattle.refusal.proofs.Exact.{same, answer_exact, given_exact, bind_exact, exact_iff, below, at_most}
use Rattle.frame.specs.declared.Frame.{Frame}
use Rattle.value_heads.specs.Kinds.{walk_of}
use Rattle.encoded_value.proofs.Exactly.{annotation_rule_exact}
use Rattle.annotation_items.specs.Items.{AnnotationItem, visibility_at, item_at}
use Rattle.annotation_items.specs.Rules.{AnnotationItemRule}

pub visibility_exact : (s : List ℕ) (item : ℕ) → Exact (visibility_at s item) (λ (v : ℕ). (item < length s) × ((get_or s item 0 ≤ 2) × (get_or s item 0 ≡ v)))
unfolding visibility_at
visibility_exact s item = given_exact (runs_past item) (below item (length s)) (given_exact (unknown_kind item) (at_most (get_or s item 0) 2) (answer_exact (get_or s item 0)))

module _ (s : List ℕ) (f : Frame) (item : ℕ) where
  pub item_exact : Exact (item_at s f item) (AnnotationItemRule s f item)
  unfolding item_at
  item_exact =
      exact_iff (bind_exact _ _ (visibility_exact s item) (λ v. bind_exact _ _ (annotation_rule_exact s (walk_of f item) (item + 1)) (λ a. answer_exact (record { place = item; visibility = v; annotation = a.item }))))
      (λ a p. subst (AnnotationItemRule s f item) p.1.1.1.1
      (record {
        place = refl;
        room = p.1.0.0;
        visibility = p.1.0.1.1;
        visible = subst (λ (v : ℕ). v ≤ 2) p.1.0.1.1 p.1.0.1.0;
        ends = p.1.1.0.next;
        body = p.1.1.1.0;
      }))
      (λ a p. (
        a.visibility,
        (
          (p.room, (subst (λ (v : ℕ). v ≤ 2) (sym p.visibility) p.visible, p.visibility)),
          (record { item = a.annotation; next = p.ends }, (p.body, λ i. record { place = p.place i; visibility = a.visibility; annotation = a.annotation })),
        ),
      ))

  pub item_same : (a b : AnnotationItem) → AnnotationItemRule s f item a → AnnotationItemRule s f item b → a ≡ b
  item_same = same item_exact
