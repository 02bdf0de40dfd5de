-- A record asked for by its number, on a file of which a reading is known: it is number n of the table, and 7 where there is none.
-- Assumes nothing.
use Prim.Native.Nat.{ℕ, zero, suc, ◌<◌, ◌≤◌}
use mathlib.Core.Path.{◌≡◌, refl, sym, ◌∙◌}
use mathlib.Core.Logic.{◌⊎◌, inl, inr}
use mathlib.Core.List.{List, [], ◌∷◌}
use lib.ListN.{length}
use lib.Dec.{ltb}
use borrow.Author.Tests.{lt-ltb, le-ltb}
use native.Mathlib.Omega.{arith}
use Rattle.refusal.specs.Refusals.{not_there}
use Rattle.refusal.specs.Outcome.{Outcome, answer, refused, ◌>>=◌, given}
use Rattle.refusal.specs.Exact.{Each, At, here, there}
use Rattle.refusal.proofs.Laws.{bind_answer, bind_refused, passes, fails}
use Rattle.refusal.proofs.Each.{at_some}
use Rattle.value_bodies.specs.Bodies.{pick}
use Rattle.value_bodies.proofs.Picks.{pick_there, pick_none}

-- a number is below another, or it is not
either_way : (x y : ℕ) → (x < y) ⊎ (y ≤ x)
either_way x zero = inr (omega arith)
either_way zero (suc y) = inl (omega arith)
either_way (suc x) (suc y) = lift (either_way x y)
  where
    lift : (x < y) ⊎ (y ≤ x) → (suc x < suc y) ⊎ (suc y ≤ suc x)
    lift (inl p) = inl (omega arith)
    lift (inr p) = inr (omega arith)

-- what is made of an answer, and nothing
pub made_same : {A : Type 0} (o : Outcome A) → (o >>= λ (a : A). answer a) ≡ o
unfolding ◌>>=◌
made_same (answer a) = refl
made_same (refused r) = refl

-- entry n of a table of which the list l is known, and what is then made of it
module _ {A B C : Type 0} (entry : ℕ → Outcome A) {Below : ℕ → B → Type 0} {count : ℕ} {l : List B} (each : Each Below count l) (own : B → A)
    (reads : (n : ℕ) (b : B) → Below n b → entry n ≡ answer (own b)) (n : ℕ) (k : A → Outcome C) (g : B → Outcome C) (same : (b : B) → Below n b → k (own b) ≡ g b) where
  there_is : n < count → (given (ltb n count) not_there (entry n) >>= k) ≡ (pick n l >>= g)
  there_is p =
      let size = each.count in
      let found = at_some l n (omega arith) in
      let rule = each.each found.1 in
      bind_answer k (sym (passes not_there (lt-ltb n count p) refl) ∙ reads n found.0 rule) ∙ same found.0 rule ∙ sym (bind_answer g (pick_there found.1))

  there_is_none : count ≤ n → (given (ltb n count) not_there (entry n) >>= k) ≡ (pick n l >>= g)
  there_is_none p = let size = each.count in bind_refused k (sym (fails (entry n) refl (le-ltb n count p))) ∙ sym (bind_refused g (pick_none l n (omega arith)))

  pub asked : (given (ltb n count) not_there (entry n) >>= k) ≡ (pick n l >>= g)
  asked = by (either_way n count)
    where
      by : (n < count) ⊎ (count ≤ n) → (given (ltb n count) not_there (entry n) >>= k) ≡ (pick n l >>= g)
      by (inl p) = there_is p
      by (inr p) = there_is_none p

-- the entry alone
pub asked_part : {A B : Type 0} (entry : ℕ → Outcome A) {Below : ℕ → B → Type 0} {count : ℕ} {l : List B} → Each Below count l → (own : B → A)
    → ((n : ℕ) (b : B) → Below n b → entry n ≡ answer (own b)) → (n : ℕ) → given (ltb n count) not_there (entry n) ≡ (pick n l >>= λ (b : B). answer (own b))
asked_part {A} {B} entry each own reads n = sym (made_same _) ∙ asked entry each own reads n (λ (a : A). answer a) (λ (b : B). answer (own b)) (λ b r. refl)

pub asked_plain : {A : Type 0} (entry : ℕ → Outcome A) {Rule : ℕ → A → Type 0} {count : ℕ} {l : List A} → Each Rule count l
    → ((n : ℕ) (a : A) → Rule n a → entry n ≡ answer a) → (n : ℕ) → given (ltb n count) not_there (entry n) ≡ pick n l
asked_plain {A} entry each reads n = asked_part entry each (λ (a : A). a) reads n ∙ made_same _

-- number k of two lists of one length, and what is made of each
pub pick_both : {A B C : Type 0} (l : List A) (m : List B) (k : ℕ) (g : A → Outcome C) (h : B → Outcome C) → length l ≡ length m
    → ((a : A) (b : B) → At l k a → At m k b → g a ≡ h b) → (pick k l >>= g) ≡ (pick k m >>= h)
unfolding pick ◌>>=◌
pick_both [] [] k g h e same = refl
pick_both [] (b ∷ m) k g h e same = absurd (omega arith)
pick_both (a ∷ l) [] k g h e same = absurd (omega arith)
pick_both (a ∷ l) (b ∷ m) zero g h e same = same a b here here
pick_both (a ∷ l) (b ∷ m) (suc k) g h e same = pick_both l m k g h (omega arith) (λ x y p q. same x y (there p) (there q))

-- there is nothing in an empty list
pub pick_empty : {A C : Type 0} (k : ℕ) (g : A → Outcome C) → refused not_there ≡ (pick k [] >>= g)
pick_empty k g = sym (bind_refused g (pick_none [] k (omega arith)))
