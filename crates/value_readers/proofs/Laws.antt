-- What the proofs of the readers of values cite.
-- Assumes nothing.
use Prim.Native.Nat.{ℕ, ◌≤◌}
use mathlib.Core.Path.{◌≡◌, ap, ◌∙◌}
use mathlib.Core.List.{List}
use borrow.Author.Rules.{rules}
use native.Mathlib.Omega.{arith}
use Rattle.refusal.specs.Outcome.{Outcome, answer}
use Rattle.refusal.proofs.Laws.{tests, calls}
use Rattle.frame.specs.declared.Frame.{Frame}
use Rattle.header.specs.declared.Header.{Header}
use Rattle.header.specs.Header.{up_to_end, frame_of}
use Rattle.value_heads.specs.declared.Walk.{Walk}
use Rattle.value_heads.specs.Kinds.{walk_of}
use Rattle.encoded_value.specs.Depth.{deepest}
use Rattle.encoded_value.specs.Readings.{past_array, past_annotation}
use Rattle.encoded_value.proofs.Bounds.{array_ends, annotation_ends}
use Rattle.decoded_value.specs.Shown.{Shown}
use Rattle.value_bodies.specs.Bodies.{ShownElement, array_count, array_value, annotation_element}
use Rattle.annotation_items.specs.Items.{Summary, item_summary, item_element}
use Rattle.value_readers.specs.Opening.{walk_in}
use Rattle.value_readers.specs.Bodies.{ArraySize, array_body, NotedSize, noted_body}

pub walk_framed : (h : Header) (handles item : ℕ) {r : Frame} {w : Walk} → r ≡ frame_of h handles → w ≡ walk_of r item → w ≡ walk_in h handles item
walk_framed h handles item e q = q ∙ ap (λ (x : Frame). walk_of x item) e

-- a body that was read in the file up to the data section's end, s, against the file's counts, w
module _ (f : List ℕ) (h : Header) (handles item p : ℕ) {s : List ℕ} {w : Walk} (e : s ≡ up_to_end f h) (g : w ≡ walk_in h handles item) where
  pub array_walked : {y : Outcome ArraySize} → y ≡ array_body s w p → y ≡ array_body (up_to_end f h) (walk_in h handles item) p
  array_walked q = q ∙ (λ i. array_body (e i) (g i) p)

  pub count_walked : {y : Outcome ℕ} → y ≡ array_count s w p → y ≡ array_count (up_to_end f h) (walk_in h handles item) p
  count_walked q = q ∙ (λ i. array_count (e i) (g i) p)

  pub value_walked : (k : ℕ) {y : Outcome Shown} → y ≡ array_value s w p k → y ≡ array_value (up_to_end f h) (walk_in h handles item) p k
  value_walked k q = q ∙ (λ i. array_value (e i) (g i) p k)

  pub body_walked : {y : Outcome NotedSize} → y ≡ noted_body s w p → y ≡ noted_body (up_to_end f h) (walk_in h handles item) p
  body_walked q = q ∙ (λ i. noted_body (e i) (g i) p)

  pub element_walked : (k : ℕ) {y : Outcome ShownElement} → y ≡ annotation_element s w p k → y ≡ annotation_element (up_to_end f h) (walk_in h handles item) p k
  element_walked k q = q ∙ (λ i. annotation_element (e i) (g i) p k)

-- an annotation item that was read there, against the file's counts, r
module _ (f : List ℕ) (h : Header) (handles item : ℕ) {s : List ℕ} {r : Frame} (e : s ≡ up_to_end f h) (g : r ≡ frame_of h handles) where
  pub summary_framed : {y : Outcome Summary} → y ≡ item_summary s r item → y ≡ item_summary (up_to_end f h) (frame_of h handles) item
  summary_framed q = q ∙ (λ i. item_summary (e i) (g i) item)

  pub element_framed : (k : ℕ) {y : Outcome ShownElement} → y ≡ item_element s r item k → y ≡ item_element (up_to_end f h) (frame_of h handles) item k
  element_framed k q = q ∙ (λ i. item_element (e i) (g i) item k)

-- a body ends after its place
pub array_room : (s : List ℕ) (w : Walk) (p : ℕ) {q : ℕ} → answer q ≡ past_array s w deepest p → p ≤ q
array_room s w p e = let h = array_ends s w deepest p e in let z = h.after_place in omega arith

pub annotation_room : (s : List ℕ) (w : Walk) (p : ℕ) {q : ℕ} → answer q ≡ past_annotation s w deepest p → p ≤ q
annotation_room s w p e = let h = annotation_ends s w deepest p e in let z = h.after_place in omega arith

pub ruleset body_laws = (array_room, annotation_room, calls, rules)

pub ruleset walked = (walk_framed, count_walked, value_walked, calls, tests, rules)

pub ruleset placed = (array_walked, value_walked, body_walked, element_walked, summary_framed, element_framed, calls, rules)

pub ruleset laws = (calls, tests, rules)
