-- In an item that obeys its rules each number below a count is answered with what stands there, and any other number is 7.
-- Assumes nothing.
use Prim.Native.Nat.{ℕ, ◌≤◌}
use mathlib.Core.Path.{◌≡◌, ◌∙◌}
use mathlib.Core.List.{List}
use lib.ListN.{length}
use Rattle.refusal.specs.Refusals.{not_there}
use Rattle.refusal.specs.Outcome.{answer, refused}
use Rattle.refusal.specs.Exact.{At}
use Rattle.refusal.proofs.Laws.{bind_answer, bind_refused}
use Rattle.frame.specs.declared.Frame.{Frame}
use Rattle.encoded_value.specs.Tree.{Named}
use Rattle.decoded_value.specs.Shown.{shown}
use Rattle.value_bodies.proofs.Picks.{pick_there, pick_none}
use Rattle.annotation_items.specs.Items.{AnnotationItem, item_visibility, item_summary, item_element}
use Rattle.annotation_items.specs.Rules.{AnnotationItemRule}
use Rattle.annotation_items.proofs.Exactly.{item_exact}

module _ (s : List ℕ) (f : Frame) (item : ℕ) (a : AnnotationItem) (h : AnnotationItemRule s f item a) where
  pub item_visible : item_visibility s f item ≡ answer a.visibility
  unfolding item_visibility
  item_visible = bind_answer _ ((item_exact s f item).complete a h)

  pub item_noted : item_summary s f item ≡ answer (record { visibility = a.visibility; type_index = a.annotation.type_index; count = length a.annotation.elements })
  unfolding item_summary
  item_noted = bind_answer _ ((item_exact s f item).complete a h)

  pub elements_kth : (k : ℕ) (e : Named) → At a.annotation.elements k e → item_element s f item k ≡ answer (record { name = e.name; value = shown e.value })
  unfolding item_element
  elements_kth k e m = bind_answer _ ((item_exact s f item).complete a h) ∙ bind_answer _ (pick_there m)

  pub elements_past : (k : ℕ) → length a.annotation.elements ≤ k → item_element s f item k ≡ refused not_there
  unfolding item_element
  elements_past k p = bind_answer _ ((item_exact s f item).complete a h) ∙ bind_refused _ (pick_none a.annotation.elements k p)
