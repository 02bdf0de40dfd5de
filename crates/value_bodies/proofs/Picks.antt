-- Laws of a number in a row: the items of a row that was read whole can be reached one by one.
-- Assumes nothing.
use Prim.Native.Nat.{ℕ, zero, suc, ◌<◌, ◌≤◌}
use mathlib.Core.Path.{◌≡◌, refl, ap, ◌∙◌}
use mathlib.Core.List.{List, [], ◌∷◌}
use lib.ListN.{length}
use native.Mathlib.Omega.{arith}
use Rattle.refusal.specs.Refusals.{not_there}
use Rattle.refusal.specs.Outcome.{Outcome, answer, refused, ◌>>=◌}
use Rattle.refusal.specs.Rows.{Found, past, repeat}
use Rattle.refusal.specs.Exact.{Exact, Row, empty, first, At, here, there}
use Rattle.refusal.proofs.Laws.{bind_answer}
use Rattle.value_bodies.specs.Bodies.{pick}

-- number k of a list is there where k is below its length, and is 7 at 0 elsewhere
pub pick_there : {A : Type 0} {l : List A} {k : ℕ} {a : A} → At l k a → pick k l ≡ answer a
unfolding pick
pick_there here = refl
pick_there (there m) = pick_there m

pub pick_none : {A : Type 0} (l : List A) (k : ℕ) → length l ≤ k → pick k l ≡ refused not_there
unfolding pick
pick_none [] k h = refl
pick_none (a ∷ l) zero h = absurd (omega arith)
pick_none (a ∷ l) (suc k) h = pick_none l k (omega arith)

pub row_length : {A : Type 0} {Step : ℕ → A → ℕ → Type 0} {n p q : ℕ} {l : List A} → Row Step n p l q → length l ≡ n
row_length empty = refl
row_length (first h r) = ap suc (row_length r)

module _ {A : Type 0} (step : ℕ → Outcome (Found A ℕ)) where
  -- item k of a row: where it stands, and what stands there
  pub record Reached (k from : ℕ) (l : List A) : Type 0 where
    pub place : ℕ
    pub after : ℕ
    pub item : A
    pub way : repeat k (λ (t : ℕ). step t >>= past) from ≡ answer place
    pub there_is : step place ≡ answer (record { item = item; next = after })
    pub number_is : At l k item

  module _ {Step : ℕ → A → ℕ → Type 0} (exact : (p : ℕ) → Exact (step p) (λ (r : Found A ℕ). Step p r.item r.next)) where
    pub reached : {n p q : ℕ} {l : List A} (k : ℕ) → k < n → Row Step n p l q → Reached k p l
    unfolding repeat
    reached k h empty = absurd (omega arith)
    reached zero h (first {a = a} {from = p} {t = t} e r) =
        record { place = p; after = t; item = a; way = refl; there_is = (exact p).complete (record { item = a; next = t }) e; number_is = here }
    reached (suc k) h (first {a = a} {from = p} {t = t} e r) =
        let m = reached k (omega arith) r in
        record {
          place = m.place;
          after = m.after;
          item = m.item;
          way = bind_answer (repeat k (λ (t : ℕ). step t >>= past)) (bind_answer past ((exact p).complete (record { item = a; next = t }) e)) ∙ m.way;
          there_is = m.there_is;
          number_is = there m.number_is;
        }
