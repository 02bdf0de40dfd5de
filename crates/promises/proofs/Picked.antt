-- A number of a list as the code's readings ask for it, and what may be absent, read on.
-- Assumes nothing.
use Prim.Native.Nat.{ℕ, ◌<◌}
use mathlib.Core.Path.{◌≡◌, refl, ap, sym, ◌∙◌}
use mathlib.Core.Logic.{◌⊎◌, inl, inr}
use mathlib.Core.Bool.{Bool, true, false}
use mathlib.Core.Option.{Option, none, some}
use mathlib.Core.List.{List}
use lib.ListN.{length, get_or}
use lib.Dec.{ltb}
use native.Mathlib.Omega.{arith}
use Rattle.refusal.specs.Refusals.{not_there}
use Rattle.refusal.specs.declared.Refusal.{Refusal}
use Rattle.refusal.specs.Outcome.{Outcome, answer, refused, ◌>>=◌, given}
use Rattle.refusal.specs.Exact.{Each, Alike}
use Rattle.refusal.proofs.Laws.{bind_answer, bind_refused}
use Rattle.refusal.proofs.Exact.{or_not, below}
use Rattle.refusal.proofs.Each.{at_some}
use Rattle.refusal.proofs.Choose.{at_get_or}
use Rattle.value_bodies.specs.Bodies.{pick}
use Rattle.value_bodies.proofs.Picks.{pick_there, pick_none}
use Rattle.class_readers.specs.Spots.{onward}
use Rattle.promises.proofs.Asked.{made_same, asked}

-- ---- what may be absent, read on and on
pub onward_then : {A B C : Type 0} (o : Outcome (Option A)) (k : A → Outcome (Option B)) (l : B → Outcome (Option C)) → (o >>= onward k >>= onward l) ≡ (o >>= onward (λ (a : A). k a >>= onward l))
unfolding ◌>>=◌ onward
onward_then (answer none) k l = refl
onward_then (answer (some a)) k l = refl
onward_then (refused r) k l = refl

pub onward_same : {A : Type 0} (o : Outcome (Option A)) → (o >>= onward (λ (a : A). answer (some a))) ≡ o
unfolding ◌>>=◌ onward
onward_same (answer none) = refl
onward_same (answer (some a)) = refl
onward_same (refused r) = refl

-- ---- the code's test of a number, and then that item of the list
pub tested : {A B : Type 0} (test : Bool) (r : Refusal) (a : A) (g : A → Outcome B) → given test r (g a) ≡ (given test r (answer a) >>= g)
unfolding given ◌>>=◌
tested true n a g = refl
tested false n a g = refl

pub tested_twice : {A : Type 0} (test : Bool) (o : Outcome A) → given test not_there (given test not_there o) ≡ given test not_there o
unfolding given
tested_twice true o = refl
tested_twice false o = refl

pub number_part : {A B : Type 0} (l : List A) (count : ℕ) → length l ≡ count → (k : ℕ) (d : A) (g : A → Outcome B) → given (ltb k count) not_there (g (get_or l k d)) ≡ (pick k l >>= g)
number_part {A} {B} l count size k d g = tested (ltb k count) not_there (get_or l k d) g ∙ asked (λ (n : ℕ). answer (get_or l n d)) each (λ (a : A). a) (λ n a q. ap answer q) k g g (λ a q. refl)
  where
    each : Each (λ (n : ℕ) (a : A). get_or l n d ≡ a) count l
    each = record { count = size; each = λ m. at_get_or d m }

pub number_there : {A : Type 0} (l : List A) (k : ℕ) (d : A) → given (ltb k (length l)) not_there (answer (get_or l k d)) ≡ pick k l
number_there {A} l k d = number_part l (length l) refl k d (λ (a : A). answer a) ∙ made_same _

-- ---- two lists whose items of one number go together
module _ {A B C : Type 0} {Rule : A → B → Type 0} {l : List A} {m : List B} (both : Alike Rule l m) (k : ℕ) (g : A → Outcome C) (h : B → Outcome C)
    (same : (a : A) (b : B) → Rule a b → g a ≡ h b) where
  pub picked_alike : (pick k l >>= g) ≡ (pick k m >>= h)
  picked_alike = by (or_not (ltb k (length l)) (below k (length l)))
    where
      by : (k < length l) ⊎ (k < length l → ⊥) → (pick k l >>= g) ≡ (pick k m >>= h)
      by (inl p) =
          let size = both.count in
          let a = at_some l k p in
          let b = at_some m k (omega arith) in
          bind_answer g (pick_there a.1) ∙ same a.0 b.0 (both.each a.1 b.1) ∙ sym (bind_answer h (pick_there b.1))
      by (inr p) =
          let size = both.count in
          bind_refused g (pick_none l k (omega arith)) ∙ sym (bind_refused h (pick_none m k (omega arith)))

-- a number of a list that is then refused all the same is 7 either way
pub picked_refused : {A B : Type 0} (l : List A) (k : ℕ) → ◌≡◌ {A = Outcome B} (pick k l >>= λ (a : A). refused not_there) (refused not_there)
picked_refused {A} {B} l k = by (or_not (ltb k (length l)) (below k (length l)))
  where
    by : (k < length l) ⊎ (k < length l → ⊥) → ◌≡◌ {A = Outcome B} (pick k l >>= λ (a : A). refused not_there) (refused not_there)
    by (inl p) = bind_answer _ (pick_there (at_some l k p).1)
    by (inr p) = bind_refused _ (pick_none l k (omega arith))
