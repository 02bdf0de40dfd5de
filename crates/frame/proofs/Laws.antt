-- The offset rule decides what it says, and the ways out of its test.
-- Assumes nothing.
use Prim.Native.Nat.{ℕ, ◌+◌, ◌*◌, ◌%◌, ◌≤◌, ◌<◌}
use mathlib.Core.Path.{◌≡◌, refl, ap, sym, subst, ◌∙◌}
use mathlib.Core.Bool.{Bool, true, false, cond, false≢true}
use mathlib.Core.List.{List}
use lib.ListN.{length}
use lib.Dec.{eqb, leb}
use borrow.Author.Rules.{rules}
use native.Mathlib.Omega.{arith}
use mir.Syntax.{w64}
use mir.Val.{Fits}
use borrow.Author.Tests.{le-leb, lt-leb, lt-ltb, le-ltb, eq-eqb, ne_eqb}
use Rattle.refusal.specs.Refusals.{runs_past}
use Rattle.refusal.specs.declared.Refusal.{Refusal}
use Rattle.refusal.specs.Outcome.{Outcome, answer, refused, ◌>>=◌, given}
use Rattle.refusal.specs.Exact.{Decides}
use Rattle.refusal.proofs.Laws.{passes, fails, refused_by}
use Rattle.refusal.proofs.Exact.{both, one_of, below, at_most, equal, decided_yes, given_exact, answer_exact}
use Rattle.word.specs.Words.{u32_at}
use Rattle.word.specs.declared.Endian.{Endian}
use Rattle.word.proofs.Laws.{room_there}
use Rattle.frame.specs.Counted.{counted}
use Rattle.frame.specs.Offsets.{allowed, allowed_or_absent, Allowed, AllowedOrAbsent}

multiple_decides : (four : Bool) (x : ℕ) → Decides (cond four (eqb (x % 4) 0) true) (four ≡ true → x % 4 ≡ 0)
multiple_decides true x = let d = equal (x % 4) 0 in record { sound = λ t e. d.sound t; complete = λ h. d.complete (h refl) }
multiple_decides false x = decided_yes λ e. absurd (false≢true e)

pub allowed_decides : (start end : ℕ) (four : Bool) (offset : ℕ) → Decides (allowed start end four offset) (Allowed start end four offset)
unfolding allowed
allowed_decides start end four offset =
    let d = both (at_most start offset) (both (below offset end) (multiple_decides four offset)) in
    record {
      sound = λ t. let h = d.sound t in record { from = h.0; before_end = h.1.0; multiple = h.1.1 };
      complete = λ h. d.complete (h.from, (h.before_end, h.multiple));
    }

pub or_absent_decides : (start end : ℕ) (four : Bool) (offset : ℕ) → Decides (allowed_or_absent start end four offset) (AllowedOrAbsent start end four offset)
unfolding allowed_or_absent
or_absent_decides start end four offset = one_of (equal offset 0) (allowed_decides start end four offset)

-- ---- the ways out of `is_allowed` and `is_allowed_or_absent`
module _ (start end : ℕ) (four : Bool) (offset : ℕ) where
  pub too_low : offset < start → false ≡ allowed start end four offset
  unfolding allowed
  too_low h = rw (lt-leb start offset h)

  pub too_high : start ≤ offset → end ≤ offset → false ≡ allowed start end four offset
  unfolding allowed
  too_high p h = rw (le-leb start offset p, le-ltb offset end h)

  pub by_multiple : start ≤ offset → offset < end → four ≡ true → eqb (offset % 4) 0 ≡ allowed start end four offset
  unfolding allowed
  by_multiple p h f = rw (le-leb start offset p, lt-ltb offset end h, f)

  pub anywhere : start ≤ offset → offset < end → four ≡ false → true ≡ allowed start end four offset
  unfolding allowed
  anywhere p h f = rw (le-leb start offset p, lt-ltb offset end h, f)

  pub absent_allowed : offset ≡ 0 → true ≡ allowed_or_absent start end four offset
  unfolding allowed_or_absent
  absent_allowed e = rw (eq-eqb offset 0 e)

  pub present_allowed : {b : Bool} → (offset ≡ 0 → ⊥) → b ≡ allowed start end four offset → b ≡ allowed_or_absent start end four offset
  unfolding allowed_or_absent
  present_allowed n e = rw (ne_eqb offset 0 n) e

-- ---- a list that was counted
module _ (s : List ℕ) (order : Endian) (p width : ℕ) where
  module _ {n : ℕ} (read : n ≡ u32_at order s p) {b : Bool} (e : b ≡ leb (p + (4 + width * n)) (length s)) where
    pub count_fits : b ≡ true → answer n ≡ counted s order p width
    unfolding counted
    count_fits t =
        let h : p + (4 + width * n) ≤ length s = room_there (length s) p (4 + width * n) e t in
        rw (← read) (passes (runs_past p) (le-leb (p + 4) (length s) (omega arith)) (passes (runs_past p) (le-leb (p + 4 + width * n) (length s) (omega arith)) refl))

    pub no_room : {r : Refusal} → b ≡ false → r ≡ runs_past p → refused r ≡ counted s order p width
    unfolding counted given
    no_room {r} t made = rw (← read) (go (leb (p + 4) (length s)))
      where
        long : leb (p + 4 + width * n) (length s) ≡ false
        long = let same : p + 4 + width * n ≡ p + (4 + width * n) = omega arith in ap (λ (m : ℕ). leb m (length s)) same ∙ sym e ∙ t

        go : (c : Bool) → refused r ≡ given c (runs_past p) (given (leb (p + 4 + width * n) (length s)) (runs_past p) (answer n))
        go true = fails _ made long
        go false = refused_by made

  -- its number, and that its entries lie within the slice
  pub record Count (n : ℕ) : Type 0 where
    pub number : n ≡ u32_at order s p
    pub room : p + 4 + width * n ≤ length s

  pub counted_is : {n : ℕ} → answer n ≡ counted s order p width → Count n
  unfolding counted
  counted_is {n} e =
      let exact = given_exact (runs_past p) (at_most (p + 4) (length s)) (given_exact (runs_past p) (at_most (p + 4 + width * u32_at order s p) (length s)) (answer_exact (u32_at order s p))) in
      let h = exact.sound n (sym e) in
      record { number = sym h.1.1; room = subst (λ (m : ℕ). p + 4 + width * m ≤ length s) h.1.1 h.1.0 }

  pub behind_fits : {n : ℕ} → answer n ≡ counted s order p width → Fits w64 (length s) → Fits w64 (p + 4)
  behind_fits e h = let z = (counted_is e).room in omega arith

  -- what comes behind both tests
  pub behind_count : {A : Type 0} (k : ℕ → Outcome A)
      → given (leb (p + 4) (length s)) (runs_past p) (given (leb (p + 4 + width * u32_at order s p) (length s)) (runs_past p) (k (u32_at order s p))) ≡ (counted s order p width >>= k)
  unfolding counted given ◌>>=◌
  behind_count k = go (leb (p + 4) (length s)) (leb (p + 4 + width * u32_at order s p) (length s))
    where
      go : (a b : Bool) → given a (runs_past p) (given b (runs_past p) (k (u32_at order s p))) ≡ (given a (runs_past p) (given b (runs_past p) (answer (u32_at order s p))) >>= k)
      go true true = refl
      go true false = refl
      go false b = refl

pub ruleset count_laws = (count_fits, no_room, rules)

pub ruleset laws = (too_low, too_high, by_multiple, anywhere, absent_allowed, present_allowed, rules)
