-- The flags that are read are exactly those that the rule allows.
-- Assumes nothing.
use Prim.Native.Nat.{ℕ, zero, suc, ◌+◌, ◌^◌, ◌%◌, ◌/◌, ◌<◌, ◌≤◌}
use mathlib.Core.Path.{◌≡◌, refl, ap, sym, subst, ◌∙◌}
use mathlib.Core.Logic.{◌⊎◌, inl, inr}
use mathlib.Core.Bool.{Bool, true, false, cond, not, ◌&&◌, ◌||◌, false≢true}
use mathlib.Core.List.{List, [], ◌∷◌}
use lib.Dec.{eqb}
use native.Mathlib.Nat.{div-one, div-div-eq-div-mul, pow-suc}
use native.Mathlib.Numerals.{add-one}
use native.Mathlib.Omega.{arith}
use Rattle.refusal.specs.Outcome.{answer}
use Rattle.refusal.specs.Exact.{Exact, Decides, At, here, there, Rising, Strict}
use Rattle.refusal.proofs.Exact.{answers_equal, same, decided_yes, decided_no, equal, both, one_of, or_not}
use Rattle.refusal.proofs.Each.{at_below, rising_one, rising_cons, rising_tail, rising_far}
use Rattle.access_flags.specs.Flags.{kept, bits, flag_bits, flags}
use Rattle.access_flags.specs.Rules.{FlagsRule}

-- ---- two lists that rise and hold the same are one list
abbrev StandsIn : {A : Type 0} → List A → A → Type 0
StandsIn l a = (k : ℕ) × At l k a

module _ {A : Type 0} {Before : A → A → Type 0} (strict : Strict Before) where
  after_first : {a b : A} {l : List A} → Rising Before (a ∷ l) → StandsIn l b → Before a b
  after_first r h = rising_far strict r here (there h.1) (omega arith)

  first_same : {a b : A} {l m : List A} → Rising Before (a ∷ l) → Rising Before (b ∷ m) → StandsIn (b ∷ m) a → StandsIn (a ∷ l) b → a ≡ b
  first_same r s (k, here) (j, q) = refl
  first_same r s (k, there p) (j, here) = refl
  first_same r s (k, there p) (j, there q) = absurd (strict.never (strict.onward (after_first r (_, q)) (after_first s (_, p))))

  -- what is in the rest of one is in the rest of the other
  rest_in : {a b c : A} {l m : List A} → Rising Before (a ∷ l) → a ≡ b → StandsIn l c → StandsIn (b ∷ m) c → StandsIn m c
  rest_in {c = c} r e h (k, here) = absurd (strict.never (subst (λ (x : A). Before x c) e (after_first r h)))
  rest_in r e h (k, there p) = (_, p)

  rising_once : (l m : List A) → Rising Before l → Rising Before m → ((a : A) → StandsIn l a → StandsIn m a) → ((a : A) → StandsIn m a → StandsIn l a) → l ≡ m
  rising_once [] [] r s f g = refl
  rising_once [] (b ∷ m) r s f g = absurd (let z = at_below (g b (0, here)).1 in omega arith)
  rising_once (a ∷ l) [] r s f g = absurd (let z = at_below (f a (0, here)).1 in omega arith)
  rising_once (a ∷ l) (b ∷ m) r s f g =
      let e = first_same r s (f a (0, here)) (g b (0, here)) in
      let rest =
      rising_once l m (rising_tail r) (rising_tail s)
      (λ c h. rest_in r e h (f c (_, there h.1)))
      (λ c h. rest_in s (sym e) h (g c (_, there h.1))) in
      λ i. e i ∷ rest i

by_size : Strict ◌<◌
by_size = record { never = λ h. omega arith; onward = λ h k. omega arith }

-- ---- the test of a bit
abbrev ComesOut : Bool → ℕ → Type 0
ComesOut class i = class ≡ true → (i ≡ 6 → ⊥) × (i ≡ 7 → ⊥)

not_omitted : (class : Bool) (i : ℕ) → Decides (not (class && (eqb i 6 || eqb i 7))) (ComesOut class i)
not_omitted false i = decided_yes λ e. absurd (false≢true e)
not_omitted true i = go (eqb i 6 || eqb i 7) (one_of (equal i 6) (equal i 7))
  where
    neither : ((i ≡ 6) ⊎ (i ≡ 7)) → ComesOut true i → ⊥
    neither (inl e) h = (h refl).0 e
    neither (inr e) h = (h refl).1 e

    go : (b : Bool) → Decides b ((i ≡ 6) ⊎ (i ≡ 7)) → Decides (not b) (ComesOut true i)
    go true d = decided_no λ h. neither (d.sound refl) h
    go false d = decided_yes λ e. (λ six. false≢true (d.complete (inl six)), λ seven. false≢true (d.complete (inr seven)))

kept_decides : (class : Bool) (i v : ℕ) → Decides (kept class i v) ((v % 2 ≡ 1) × ComesOut class i)
unfolding kept
kept_decides class i v = both (equal (v % 2) 1) (not_omitted class i)

-- ---- the bits of a value from number i on
half : (value i : ℕ) → value / 2 ^ i / 2 ≡ value / 2 ^ (i + 1)
half value i = div-div-eq-div-mul value (2 ^ i) 2 ∙ ap (λ (x : ℕ). value / x) (sym (pow-suc 2 i) ∙ ap (λ (x : ℕ). 2 ^ x) (sym (add-one i)))

module _ (class : Bool) (value : ℕ) where
  -- number j is among the n from i on, and comes out
  record Among (n i j : ℕ) : Type 0 where
    from : i ≤ j
    to : j < i + n
    bit : value / 2 ^ j % 2 ≡ 1
    out : ComesOut class j

  record BitsRule (n i : ℕ) (l : List ℕ) : Type 0 where
    only : {j : ℕ} → StandsIn l j → Among n i j
    each : {j : ℕ} → Among n i j → StandsIn l j
    rising : Rising ◌<◌ l

  further : {n i j : ℕ} → Among n (i + 1) j → Among (suc n) i j
  further a = record { from = let z = a.from in omega arith; to = let z = a.to in omega arith; bit = a.bit; out = a.out }

  nearer : {n i j : ℕ} → (i ≡ j → ⊥) → Among (suc n) i j → Among n (i + 1) j
  nearer p a = record { from = let z = a.from in omega arith; to = let z = a.to in omega arith; bit = a.bit; out = a.out }

  rising_front : {i : ℕ} (l : List ℕ) → ((j : ℕ) → StandsIn l j → i < j) → Rising ◌<◌ l → Rising ◌<◌ (i ∷ l)
  rising_front [] h r = rising_one
  rising_front (a ∷ l) h r = rising_cons (h a (0, here)) r

  module _ {n i : ℕ} {l : List ℕ} (h : BitsRule n (i + 1) l) where
    one_in : value / 2 ^ i % 2 ≡ 1 → ComesOut class i → BitsRule (suc n) i (i ∷ l)
    one_in bit out = record { only = only; each = λ {j} a. each j a (or_not (eqb i j) (equal i j)); rising = rising_front l (λ j m. let z = (h.only m).from in omega arith) h.rising }
      where
        only : {j : ℕ} → StandsIn (i ∷ l) j → Among (suc n) i j
        only (k, here) = record { from = omega arith; to = omega arith; bit = bit; out = out }
        only (k, there m) = further (h.only (_, m))

        each : (j : ℕ) → Among (suc n) i j → (i ≡ j) ⊎ (i ≡ j → ⊥) → StandsIn (i ∷ l) j
        each j a (inl e) = subst (StandsIn (i ∷ l)) e (0, here)
        each j a (inr p) = let m = h.each (nearer p a) in (_, there m.1)

    one_out : ((value / 2 ^ i % 2 ≡ 1) × ComesOut class i → ⊥) → BitsRule (suc n) i l
    one_out p = record { only = λ m. further (h.only m); each = λ {j} a. each j a (or_not (eqb i j) (equal i j)); rising = h.rising }
      where
        each : (j : ℕ) → Among (suc n) i j → (i ≡ j) ⊎ (i ≡ j → ⊥) → StandsIn l j
        each j a (inl e) = absurd (p (subst (λ (x : ℕ). (value / 2 ^ x % 2 ≡ 1) × ComesOut class x) (sym e) (a.bit, a.out)))
        each j a (inr q) = h.each (nearer q a)

  bits_rule : (n i : ℕ) → BitsRule n i (bits n class i (value / 2 ^ i))
  unfolding bits
  bits_rule zero i = record { only = λ m. absurd (let z = at_below m.1 in omega arith); each = λ a. absurd (let z = a.from in let y = a.to in omega arith); rising = record { rises = λ m k. absurd (let z = at_below m in omega arith) } }
  bits_rule (suc n) i = go (kept class i (value / 2 ^ i)) (kept_decides class i (value / 2 ^ i)) (subst (λ (v : ℕ). BitsRule n (i + 1) (bits n class (i + 1) v)) (sym (half value i)) (bits_rule n (i + 1)))
    where
      go : (b : Bool) → Decides b ((value / 2 ^ i % 2 ≡ 1) × ComesOut class i) → {l : List ℕ} → BitsRule n (i + 1) l → BitsRule (suc n) i (cond b (i ∷ l) l)
      go true d h = let p = d.sound refl in one_in h p.0 p.1
      go false d h = one_out h (λ p. false≢true (d.complete p))

  pub flags_rule : FlagsRule class value (flags class value)
  unfolding flags
  flags_rule =
      let h = subst (λ (v : ℕ). BitsRule flag_bits 0 (bits flag_bits class 0 v)) (div-one value) (bits_rule flag_bits 0) in
      record {
        numbers = λ i. (
          λ m. let a = h.only m in record { bit = a.bit; low = let z = a.to in omega arith; not_of_classes = a.out },
          λ a. h.each (record { from = omega arith; to = let z = a.low in omega arith; bit = a.bit; out = a.not_of_classes }),
        );
        rising = h.rising;
      }

  pub flags_exact : Exact (answer (flags class value)) (FlagsRule class value)
  flags_exact = record {
    sound = λ l e. subst (FlagsRule class value) (answers_equal e) flags_rule;
    complete = λ l h. ap answer (rising_once by_size (flags class value) l flags_rule.rising h.rising (λ i m. (h.numbers i).1 ((flags_rule.numbers i).0 m)) (λ i m. (flags_rule.numbers i).1 ((h.numbers i).0 m)));
  }

  -- the rule allows one list
  pub flags_same : (a b : List ℕ) → FlagsRule class value a → FlagsRule class value b → a ≡ b
  flags_same = same flags_exact
