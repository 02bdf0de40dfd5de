-- The loop of `compare`, which goes over the keys of two lists of bytes.
-- Assumes nothing.
use Prim.Native.Nat.{ℕ, ◌+◌, ◌<◌, ◌≤◌, min}
use mathlib.Core.Path.{◌≡◌, refl, ap, sym, ◌∙◌}
use mathlib.Core.Bool.{Bool, true, false, cond}
use mathlib.Core.List.{List, [], ◌∷◌}
use lib.ListN.{length, get_or, drop, drop_of_length-le}
use lib.Seq.{drop-cons}
use lib.Dec.{ltb, eqb}
use borrow.Author.Rules.{rules}
use borrow.Author.Tests.{ltb-true, ltb-false, eqb-true, eqb-false, lt-ltb, le-ltb, eq-eqb, ne_eqb}
use native.Mathlib.Numerals.{add-one}
use native.Mathlib.Omega.{arith}
use Rattle.std.proofs.Common.{nat_cmp}
use Rattle.text_order.specs.Order.{compared, key, keys, by_key, earlier}
use Rattle.std.specs.declared.cmp.Ordering.TheVariants.{Less, Equal, Greater}

-- ---- keys
pub key_zero : (b : ℕ) → b ≡ 0xc0 → 0 ≡ key b
unfolding key
key_zero b e = rw (eq-eqb b 0xc0 e)

pub key_other : (b : ℕ) → (b ≡ 0xc0 → ⊥) → b + 1 ≡ key b
unfolding key
key_other b e = rw (ne_eqb b 0xc0 e)

-- different bytes have different keys
pub key_once : (a b : ℕ) → key a ≡ key b → a ≡ b
key_once a b e = go (eqb a 0xc0) refl (eqb b 0xc0) refl
  where
    go : (s : Bool) → eqb a 0xc0 ≡ s → (t : Bool) → eqb b 0xc0 ≡ t → a ≡ b
    go true p true q = omega (arith, eqb-true a 0xc0 p, eqb-true b 0xc0 q)
    go true p false q = absurd (omega (arith, key_zero a (eqb-true a 0xc0 p), key_other b (eqb-false b 0xc0 q)))
    go false p true q = absurd (omega (arith, key_zero b (eqb-true b 0xc0 q), key_other a (eqb-false a 0xc0 p)))
    go false p false q = omega (arith, key_other a (eqb-false a 0xc0 p), key_other b (eqb-false b 0xc0 q))

module _ (a b : ℕ) {x y : ℕ} (e : x ≡ key a) (f : y ≡ key b) where
  pub earlier_less : x < y → Less ≡ earlier a b
  unfolding earlier
  earlier_less h = rw (lt-ltb (key a) (key b) (omega arith))

  pub earlier_greater : y ≤ x → Greater ≡ earlier a b
  unfolding earlier
  earlier_greater h = rw (le-ltb (key a) (key b) (omega arith))

-- ---- one byte of two lists
module _ (a b : ℕ) (x y : List ℕ) where
  pub same_first : a ≡ b → by_key (a ∷ x) (b ∷ y) ≡ by_key x y
  unfolding by_key keys compared
  same_first e = let z : key a ≡ key b = ap key e in rw (le-ltb (key a) (key b) (omega arith), le-ltb (key b) (key a) (omega arith))

  pub other_first : (a ≡ b → ⊥) → by_key (a ∷ x) (b ∷ y) ≡ earlier a b
  unfolding by_key keys compared earlier
  other_first h = go (ltb (key a) (key b)) refl
    where
      go : (t : Bool) → ltb (key a) (key b) ≡ t → cond t Less (cond (ltb (key b) (key a)) Greater (compared (keys x) (keys y))) ≡ cond t Less Greater
      go true p = refl
      go false p =
          let less = ltb-false (key a) (key b) p in
          let apart : key a ≡ key b → ⊥ = λ e. h (key_once a b e) in
          rw (lt-ltb (key b) (key a) (omega arith))

-- ---- the loop of `compare` at its head: the first i bytes are alike
pub record Comparing (a b : List ℕ) (i : ℕ) : Type 0 where
  pub inside : i ≤ length a
  same : by_key a b ≡ by_key (drop i a) (drop i b)

pub comparing_first : (a b : List ℕ) → Comparing a b 0
comparing_first a b = record { inside = omega arith; same = refl }

module _ {a b : List ℕ} {i : ℕ} (h : Comparing a b i) where
  past_end : (l : List ℕ) → length l ≤ i → drop i l ≡ []
  past_end l p = drop_of_length-le l p

  at_byte : (l : List ℕ) → i < length l → drop i l ≡ get_or l i 0 ∷ drop (i + 1) l
  at_byte l p = rw (add-one, drop-cons l i 0)

  on : {x y : List ℕ} → drop i a ≡ x → drop i b ≡ y → by_key a b ≡ by_key x y
  on e f = h.same ∙ (λ i. by_key (e i) (f i))

  longer : i < length a → length b ≤ i → by_key a b ≡ Greater
  unfolding by_key keys compared
  longer p q = on (at_byte a p) (past_end b q)

  shorter : length a ≤ i → i < length b → by_key a b ≡ Less
  unfolding by_key keys compared
  shorter p q = on (past_end a p) (at_byte b q)

  equal : length a ≤ i → length b ≤ i → by_key a b ≡ Equal
  unfolding by_key keys compared
  equal p q = on (past_end a p) (past_end b q)

  -- a turn of it: x and y are the bytes that stand there
  module _ {x y : ℕ} (p : i < length a) (q : i < length b) (left : x ≡ get_or a i 0) (right : y ≡ get_or b i 0) where
    pub comparing_next : x ≡ y → Comparing a b (i + 1)
    comparing_next e = record { inside = omega arith; same = on (at_byte a p) (at_byte b q) ∙ same_first _ _ _ _ (sym left ∙ e ∙ right) }

    pub comparing_other : (x ≡ y → ⊥) → earlier x y ≡ by_key a b
    comparing_other n = (λ i. earlier (left i) (right i)) ∙ sym (on (at_byte a p) (at_byte b q) ∙ other_first _ _ _ _ (λ e. n (left ∙ e ∙ sym right)))

  -- one of them has ended: their lengths decide
  pub comparing_over : i ≡ min (length a) (length b) → nat_cmp (length a) (length b) ≡ by_key a b
  comparing_over e = go (ltb (length a) (length b)) refl (eqb (length a) (length b)) refl
    where
      go : (s : Bool) → ltb (length a) (length b) ≡ s → (t : Bool) → eqb (length a) (length b) ≡ t → cond s Less (cond t Equal Greater) ≡ by_key a b
      go true p t q = let less = ltb-true (length a) (length b) p in sym (shorter (omega arith) (omega arith))
      go false p true q = let same = eqb-true (length a) (length b) q in sym (equal (omega arith) (omega arith))
      go false p false q = let more = ltb-false (length a) (length b) p in let other = eqb-false (length a) (length b) q in sym (longer (omega arith) (omega arith))

-- what the functions of the order are searched with
pub ruleset laws = (key_zero, key_other, earlier_less, earlier_greater, comparing_first, rules)
