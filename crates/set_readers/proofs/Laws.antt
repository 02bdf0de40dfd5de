-- What the proofs of the readers of sets cite.
-- Assumes nothing.
use Prim.Native.Nat.{ℕ}
use mathlib.Core.Path.{◌≡◌, ap, ◌∙◌}
use mathlib.Core.Bool.{Bool}
use mathlib.Core.List.{List}
use borrow.Author.Rules.{rules}
use Rattle.refusal.specs.declared.Refusal.{Refusal}
use Rattle.refusal.specs.Outcome.{Outcome, answer, refused, ◌>>=◌}
use Rattle.refusal.proofs.Laws.{tests, calls, on_ok, on_err}
use Rattle.frame.specs.declared.Frame.{Frame}
use Rattle.header.specs.declared.Header.{Header}
use Rattle.header.specs.Header.{up_to_end, frame_of}
use Rattle.annotation_lists.specs.Offsets.{offset_count, offset_number}
use Rattle.directory_readers.specs.declared.Reached.{Reached}
use Rattle.set_readers.specs.Sets.{annotation_count, annotation_place}

-- a set that was reached, by what the call said, p
module _ (f : List ℕ) {p o : Outcome Reached} (e : p ≡ o) where
  pub count_reached : {y : Outcome ℕ} → y ≡ annotation_count f p → y ≡ annotation_count f o
  count_reached q = q ∙ ap (annotation_count f) e

  pub place_reached : (k : ℕ) {y : Outcome ℕ} → y ≡ annotation_place f p k → y ≡ annotation_place f o k
  place_reached k q = q ∙ ap (λ (x : Outcome Reached). annotation_place f x k) e

-- a list that was read in the file up to the data section's end, s, against the file's counts, r
module _ (f : List ℕ) (h : Header) (handles item : ℕ) {s : List ℕ} {r : Frame} (e : s ≡ up_to_end f h) (g : r ≡ frame_of h handles) (absent four : Bool) where
  pub count_framed : {y : Outcome ℕ} → y ≡ offset_count s r item absent four → y ≡ offset_count (up_to_end f h) (frame_of h handles) item absent four
  count_framed q = q ∙ (λ i. offset_count (e i) (g i) item absent four)

  pub number_framed : (k : ℕ) {y : Outcome ℕ} → y ≡ offset_number s r item absent four k → y ≡ offset_number (up_to_end f h) (frame_of h handles) item absent four k
  number_framed k q = q ∙ (λ i. offset_number (e i) (g i) item absent four k)

  pub place_framed : {B : Type 0} {p : ℕ} {y : Outcome B} (n : ℕ) (k : ℕ → Outcome B) → answer p ≡ offset_number s r item absent four n → y ≡ k p
      → y ≡ (offset_number (up_to_end f h) (frame_of h handles) item absent four n >>= k)
  place_framed n k q = on_ok k (number_framed n q)

  pub place_unframed : {B : Type 0} {x : Refusal} (n : ℕ) (k : ℕ → Outcome B) → refused x ≡ offset_number s r item absent four n
      → refused x ≡ (offset_number (up_to_end f h) (frame_of h handles) item absent four n >>= k)
  place_unframed n k q = on_err k (number_framed n q)

pub ruleset laws = (count_reached, place_reached, calls, rules)

pub ruleset framed = (count_framed, number_framed, place_framed, place_unframed, calls, tests, rules)
