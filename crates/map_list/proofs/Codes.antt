-- A code is found exactly where it is in the table; and the loop that searches the table.
-- Assumes nothing.
use Prim.Native.Nat.{ℕ, suc, ◌+◌, ◌<◌, ◌≤◌}
use mathlib.Core.Path.{◌≡◌, refl, sym, subst, ◌∙◌}
use mathlib.Core.Bool.{Bool, true, false, cond}
use mathlib.Core.List.{List, [], ◌∷◌}
use lib.ListN.{length, get_or, drop, drop_of_length-le}
use lib.Seq.{drop-cons}
use lib.Dec.{eqb}
use borrow.Author.Tests.{eq-eqb, ne_eqb, eqb-true}
use borrow.Author.Rules.{rules}
use native.Mathlib.Numerals.{add-one}
use native.Mathlib.Omega.{arith}
use Rattle.refusal.specs.Exact.{At, here, there}
use Rattle.map_list.specs.Codes.{codes, place_in, map_code_number}

place_most : (l : List ℕ) (x : ℕ) → place_in l x ≤ length l
unfolding place_in
place_most [] x = omega arith
place_most (c ∷ l) x = go (eqb c x) (place_most l x)
  where
    go : (b : Bool) → place_in l x ≤ length l → cond b 0 (suc (place_in l x)) ≤ suc (length l)
    go true h = omega arith
    go false h = omega arith

-- where it is below the length, the code stands there
place_there : (l : List ℕ) (x : ℕ) → place_in l x < length l → At l (place_in l x) x
unfolding place_in
place_there [] x p = absurd (omega arith)
place_there (c ∷ l) x p = go (eqb c x) refl p (place_there l x)
  where
    go : (b : Bool) → eqb c x ≡ b → cond b 0 (suc (place_in l x)) < suc (length l) → (place_in l x < length l → At l (place_in l x) x) → At (c ∷ l) (cond b 0 (suc (place_in l x))) x
    go true e q h = subst (λ (y : ℕ). At (c ∷ l) 0 y) (eqb-true c x e) here
    go false e q h = there (h (omega arith))

place_found : {l : List ℕ} {i x : ℕ} → At l i x → place_in l x < length l
unfolding place_in
place_found (here {a = a} {l = l}) = rw (eq-eqb a a refl) (omega arith)
place_found (there {a = x} {b = c} {l = l} m) = go (eqb c x) (place_found m)
  where
    go : (b : Bool) → place_in l x < length l → cond b 0 (suc (place_in l x)) < suc (length l)
    go true h = omega arith
    go false h = omega arith

pub code_there : (kind : ℕ) → map_code_number kind < 21 → At codes (map_code_number kind) kind
unfolding map_code_number codes
code_there kind p = place_there codes kind p

pub code_found : {i kind : ℕ} → At codes i kind → map_code_number kind < 21
unfolding map_code_number codes
code_found m = place_found m

-- ---- the loop of `code_of`: the first i codes are others
pub record Searching (kind i : ℕ) : Type 0 where
  inside : i ≤ 21
  same : map_code_number kind ≡ i + place_in (drop i codes) kind

pub searching_first : (kind : ℕ) → Searching kind 0
unfolding map_code_number
searching_first kind = record { inside = omega arith; same = omega arith }

module _ {kind i : ℕ} (h : Searching kind i) where
  at_code : i < 21 → drop i codes ≡ get_or codes i 0 ∷ drop (i + 1) codes
  unfolding codes
  at_code p = rw (add-one, drop-cons codes i 0)

  pub searching_hit : i < 21 → get_or codes i 0 ≡ kind → i ≡ map_code_number kind
  unfolding place_in
  searching_hit p e = sym (h.same ∙ rw (at_code p, eq-eqb (get_or codes i 0) kind e) (omega arith))

  pub searching_miss : i < 21 → (get_or codes i 0 ≡ kind → ⊥) → Searching kind (i + 1)
  unfolding place_in
  searching_miss p n = record { inside = omega arith; same = h.same ∙ rw (at_code p, ne_eqb (get_or codes i 0) kind n) (omega arith) }

  pub searching_done : 21 ≤ i → 21 ≡ map_code_number kind
  unfolding place_in codes
  searching_done p = sym (h.same ∙ rw (drop_of_length-le codes p) (let z = h.inside in omega arith))

pub ruleset searching = (searching_first, searching_hit, searching_miss, searching_done, rules)
