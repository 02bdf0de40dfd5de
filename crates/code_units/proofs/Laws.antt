-- The loop of `fill` at its head, and what `units_into` answers and leaves.
-- Assumes nothing.
use Prim.Native.Nat.{ℕ, zero, suc, ◌+◌, ◌-◌, ◌*◌, ◌<◌, ◌≤◌}
use mathlib.Core.Path.{◌≡◌, refl, ap, sym, ◌∙◌}
use mathlib.Core.List.{List, ◌∷◌, ◌++◌, append_assoc}
use lib.ListN.{length, take, drop, set, length-set, take-append-drop}
use lib.Seq.{take-suc-set, drop-set-lt, drop-drop}
use borrow.Author.Rules.{rules}
use borrow.Author.Tests.{le-leb, lt-leb}
use native.Mathlib.Numerals.{add-one}
use native.Mathlib.Omega.{arith}
use Rattle.refusal.specs.Refusals.{no_room, runs_past}
use Rattle.refusal.specs.declared.Refusal.{Refusal}
use Rattle.refusal.specs.Outcome.{answer, refused}
use Rattle.refusal.proofs.Laws.{passes, fails}
use Rattle.word.specs.Words.{u16_at}
use Rattle.word.specs.declared.Endian.{Endian}
use Rattle.code_units.specs.Units.{units_at, filled, into_at, left_at}

units_more : (o : Endian) (s : List ℕ) (p left : ℕ) → 0 < left → units_at o s p left ≡ u16_at o s p ∷ units_at o s (p + 2) (left - 1)
unfolding units_at
units_more o s p zero h = absurd (omega arith)
units_more o s p (suc left) h =
    let back : suc left - 1 ≡ left = omega arith in
    rw back

-- one store moves the seam by one
fill_step : (out vs : List ℕ) (i v : ℕ) → i < length out → take i out ++ filled (v ∷ vs) (drop i out) ≡ take (i + 1) (set out i v) ++ filled vs (drop (i + 1) (set out i v))
unfolding filled
fill_step out vs i v h =
    let same : i + suc (length vs) ≡ suc i + length vs = omega arith in
    rw (add-one i, take-suc-set out i v h, drop-set-lt (suc i) out i v (omega arith), drop-drop (suc (length vs)) i out, drop-drop (length vs) (suc i) out, append_assoc, same)

-- i units are written
pub record Filling (o : Endian) (s : List ℕ) (start count : ℕ) (before out : List ℕ) (p i : ℕ) : Type 0 where
  same : filled (units_at o s start count) before ≡ take i out ++ filled (units_at o s p (count - i)) (drop i out)
  pub long : length out ≡ length before
  pub room : count ≤ length out
  pub there : p + 2 * (count - i) ≤ length s

pub filling_first : (o : Endian) (s : List ℕ) (start count : ℕ) (out : List ℕ) → start + 2 * count ≤ length s → count ≤ length out → Filling o s start count out out start 0
filling_first o s start count out h k =
    let all : count ≡ count - 0 = omega arith in
    record { same = ap (λ (n : ℕ). filled (units_at o s start n) out) all; long = refl; room = k; there = omega arith }

module _ {o : Endian} {s : List ℕ} {start count : ℕ} {before out : List ℕ} {p i : ℕ} (f : Filling o s start count before out p i) where
  pub filling_in : i < count → i < length out
  filling_in q = let z = f.room in omega arith

  pub filling_in₀ : i < count → i < length before
  filling_in₀ q = let z = f.room in let y = f.long in omega arith

  pub filling_next : {v : ℕ} → i < count → v ≡ u16_at o s p → Filling o s start count before (set out i v) (p + 2) (i + 1)
  filling_next {v} q e =
      let fewer : count - i - 1 ≡ count - (i + 1) = omega arith in
      record {
        same = f.same ∙ ap (λ (vs : List ℕ). take i out ++ filled vs (drop i out)) (units_more o s p (count - i) (omega arith) ∙ (λ j. sym e j ∷ units_at o s (p + 2) (fewer j))) ∙ fill_step out (units_at o s (p + 2) (count - (i + 1))) i v (filling_in q);
        long = length-set out i v ∙ f.long;
        room = let z = f.room in omega (arith, length-set out i v);
        there = let z = f.there in omega arith;
      }

  pub filling_done : count ≤ i → out ≡ filled (units_at o s start count) before
  unfolding units_at filled
  filling_done q =
      let none : count - i ≡ 0 = omega arith in
      sym (f.same ∙ ap (λ (k : ℕ). take i out ++ filled (units_at o s p k) (drop i out)) none ∙ take-append-drop i out)

-- ---- what `units_into` answers, and what it leaves
module _ (o : Endian) (s : List ℕ) (start count : ℕ) (out : List ℕ) where
  cut : {r : Refusal} → length s < start + 2 * count → r ≡ runs_past start → refused r ≡ into_at (length s) start count (length out)
  unfolding into_at
  cut h made = fails _ made (lt-leb (start + 2 * count) (length s) h)

  uncut : length s < start + 2 * count → out ≡ left_at o s start count out
  unfolding left_at
  uncut h = rw (lt-leb (start + 2 * count) (length s) h)

  pub into_low : {r : Refusal} → length s < start → r ≡ runs_past start → refused r ≡ into_at (length s) start count (length out)
  into_low h made = cut (omega arith) made

  pub left_low : length s < start → out ≡ left_at o s start count out
  left_low h = uncut (omega arith)

  module _ (p : start ≤ length s) where
    pub into_cut : {r : Refusal} → length s - start < 2 * count → r ≡ runs_past start → refused r ≡ into_at (length s) start count (length out)
    into_cut h made = cut (omega arith) made

    pub left_cut : length s - start < 2 * count → out ≡ left_at o s start count out
    left_cut h = uncut (omega arith)

    module _ (q : 2 * count ≤ length s - start) where
      pub into_short : {r : Refusal} → length out < count → r ≡ no_room → refused r ≡ into_at (length s) start count (length out)
      unfolding into_at
      into_short h made = passes (runs_past start) (le-leb (start + 2 * count) (length s) (omega arith)) (fails _ made (lt-leb count (length out) h))

      pub left_short : length out < count → out ≡ left_at o s start count out
      unfolding left_at
      left_short h = rw (le-leb (start + 2 * count) (length s) (omega arith), lt-leb count (length out) h)

      pub into_done : count ≤ length out → answer count ≡ into_at (length s) start count (length out)
      unfolding into_at
      into_done h = passes (runs_past start) (le-leb (start + 2 * count) (length s) (omega arith)) (passes no_room (le-leb count (length out) h) refl)

      pub left_done : {now : List ℕ} → count ≤ length out → now ≡ filled (units_at o s start count) out → now ≡ left_at o s start count out
      unfolding left_at
      left_done h e = rw (le-leb (start + 2 * count) (length s) (omega arith), le-leb count (length out) h) e

pub ruleset fill_laws = (filling_first, filling_in, filling_in₀, filling_next, filling_done, rules)

pub ruleset into_laws = (into_low, left_low, into_cut, left_cut, into_short, left_short, into_done, left_done, rules)
