-- What the proofs of the annotation item cite: its stages, over the walk that belongs to it.
-- Assumes nothing.
use Prim.Native.Nat.{ℕ, ◌+◌}
use mathlib.Core.Path.{◌≡◌, refl, ap, sym, ◌∙◌}
use mathlib.Core.List.{List}
use lib.ListN.{length}
use borrow.Author.Rules.{rules}
use native.Mathlib.Omega.{arith}
use mir.Syntax.{w64}
use mir.Val.{Fits}
use Rattle.refusal.specs.declared.Refusal.{Refusal}
use Rattle.refusal.specs.Outcome.{Outcome, answer, refused, ◌>>=◌}
use Rattle.refusal.specs.Rows.{Found, past}
use Rattle.refusal.proofs.Laws.{calls, tests, on_ok, on_err}
use Rattle.frame.specs.declared.Frame.{Frame}
use Rattle.value_heads.specs.declared.Walk.{Walk}
use Rattle.value_heads.specs.Kinds.{walk_of}
use Rattle.encoded_value.specs.Tree.{Named, Annotation}
use Rattle.encoded_value.specs.Depth.{deepest}
use Rattle.encoded_value.specs.Readings.{annotation_at, past_annotation}
use Rattle.decoded_value.specs.Shown.{shown}
use Rattle.value_bodies.specs.Bodies.{Noted, ShownElement, pick, annotation_noted, annotation_element}
use Rattle.annotation_items.specs.Items.{AnnotationItem, Summary, visibility_at, item_at, item_visibility, item_summary, item_element}
use Rattle.annotation_items.proofs.Exactly.{visibility_exact}

-- the body behind a visibility that was read
pub body_fits : (s : List ℕ) (item : ℕ) {v : ℕ} → answer v ≡ visibility_at s item → Fits w64 (length s) → Fits w64 (item + 1)
body_fits s item {v} e h = let z = ((visibility_exact s item).sound v (sym e)).0 in omega arith

-- a call over the walk w, which is the item's walk v
module _ (s : List ℕ) (p : ℕ) {v w : Walk} where
  pub body_read : {B : Type 0} {q : ℕ} {y : Outcome B} (k : ℕ → Outcome B) → w ≡ v → answer q ≡ past_annotation s w deepest p → y ≡ k q → y ≡ (past_annotation s v deepest p >>= k)
  body_read k a e h = on_ok k (e ∙ ap (λ (u : Walk). past_annotation s u deepest p) a) h

  pub body_unread : {B : Type 0} {r : Refusal} (k : ℕ → Outcome B) → w ≡ v → refused r ≡ past_annotation s w deepest p → refused r ≡ (past_annotation s v deepest p >>= k)
  body_unread k a e = on_err k (e ∙ ap (λ (u : Walk). past_annotation s u deepest p) a)

  pub head_read : {B : Type 0} {n c : ℕ} {y : Outcome B} (k : Noted → Outcome B) → w ≡ v → answer (record { type_index = n; count = c }) ≡ annotation_noted s w p → y ≡ k (record { type_index = n; count = c })
      → y ≡ (annotation_noted s v p >>= k)
  head_read k a e h = on_ok k (e ∙ ap (λ (u : Walk). annotation_noted s u p) a) h

  pub head_unread : {B : Type 0} {r : Refusal} (k : Noted → Outcome B) → w ≡ v → refused r ≡ annotation_noted s w p → refused r ≡ (annotation_noted s v p >>= k)
  head_unread k a e = on_err k (e ∙ ap (λ (u : Walk). annotation_noted s u p) a)

  pub on_element : (k : ℕ) {y : Outcome ShownElement} → w ≡ v → y ≡ annotation_element s w p k → y ≡ annotation_element s v p k
  on_element k a e = e ∙ ap (λ (u : Walk). annotation_element s u p k) a

-- what is kept of an item, told by the readers of its body
module _ (s : List ℕ) (f : Frame) (item : ℕ) where
  abbrev made : ℕ → Found Annotation ℕ → Outcome AnnotationItem
  made v a = answer (record { place = item; visibility = v; annotation = a.item })

  keeps : {B C : Type 0} (o : Outcome ℕ) (p : Outcome (Found Annotation ℕ)) (k : AnnotationItem → Outcome B) (look : Found Annotation ℕ → Outcome C) (l : ℕ → C → Outcome B)
      → ((v : ℕ) (a : Found Annotation ℕ) → k (record { place = item; visibility = v; annotation = a.item }) ≡ (look a >>= l v))
      → ((o >>= λ (v : ℕ). p >>= made v) >>= k) ≡ (o >>= λ (v : ℕ). (p >>= look) >>= l v)
  unfolding ◌>>=◌
  keeps (answer v) (answer a) k look l h = h v a
  keeps (answer v) (refused r) k look l h = refl
  keeps (refused r) p k look l h = refl

  pub visibility_by : {y : Outcome ℕ} → y ≡ (visibility_at s item >>= λ (v : ℕ). past_annotation s (walk_of f item) deepest (item + 1) >>= λ (q : ℕ). answer v) → y ≡ item_visibility s f item
  unfolding item_visibility item_at ◌>>=◌
  visibility_by e = e ∙ sym (keeps (visibility_at s item) (annotation_at s (walk_of f item) deepest (item + 1)) _ past (λ v q. answer v) (λ v a. refl))

  pub summary_by : {y : Outcome Summary}
      → y ≡ (visibility_at s item >>= λ (v : ℕ). annotation_noted s (walk_of f item) (item + 1) >>= λ (n : Noted). answer (record { visibility = v; type_index = n.type_index; count = n.count })) → y ≡ item_summary s f item
  unfolding item_summary item_at annotation_noted ◌>>=◌
  summary_by e = e ∙ sym (keeps (visibility_at s item) (annotation_at s (walk_of f item) deepest (item + 1)) _ (λ a. answer (record { type_index = a.item.type_index; count = length a.item.elements })) _ (λ v a. refl))

  pub element_by : (k : ℕ) {y : Outcome ShownElement} → y ≡ (visibility_at s item >>= λ (v : ℕ). annotation_element s (walk_of f item) (item + 1) k) → y ≡ item_element s f item k
  unfolding item_element item_at annotation_element ◌>>=◌
  element_by k e = e ∙ sym (go (visibility_at s item) (annotation_at s (walk_of f item) deepest (item + 1)))
    where
      out : Named → Outcome ShownElement
      out e = answer (record { name = e.name; value = shown e.value })

      go : (o : Outcome ℕ) (p : Outcome (Found Annotation ℕ)) → ((o >>= λ (v : ℕ). p >>= made v) >>= λ (a : AnnotationItem). pick k a.annotation.elements >>= out)
          ≡ (o >>= λ (v : ℕ). p >>= λ (a : Found Annotation ℕ). pick k a.item.elements >>= out)
      go (answer v) (answer a) = refl
      go (answer v) (refused r) = refl
      go (refused r) p = refl

pub ruleset laws = (visibility_by, summary_by, element_by, body_read, body_unread, head_read, head_unread, on_element, body_fits, calls, tests, rules)
