-- What the functions' proofs cite: the head from the values that were read, padding, and how far the tries are.
-- Assumes nothing.
use Prim.Native.Nat.{ℕ, ◌+◌, ◌-◌, ◌*◌, ◌%◌, ◌<◌, ◌≤◌}
use mathlib.Core.Path.{◌≡◌, ap, sym, ◌∙◌}
use mathlib.Core.Bool.{Bool, true, false}
use mathlib.Core.List.{List}
use lib.ListN.{length}
use borrow.Author.Rules.{rules}
use borrow.Author.Tests.{lt-ltb, le-ltb, le-leb, lt-leb, eq-eqb, ne_eqb}
use native.Mathlib.Omega.{arith}
use Rattle.refusal.specs.Refusals.{runs_past, wrong_offset}
use Rattle.refusal.specs.declared.Refusal.{Refusal}
use Rattle.refusal.specs.Outcome.{answer, refused}
use Rattle.refusal.proofs.Laws.{passes, fails}
use Rattle.word.specs.Words.{u16_at, u32_at}
use Rattle.frame.specs.declared.Frame.{Frame}
use Rattle.frame.specs.Offsets.{allowed_or_absent}
use Rattle.code_heads.specs.declared.CodeHead.{CodeHead}
use Rattle.code_heads.specs.Heads.{code_head_at, padding, body_size}

-- ---- the head, from the values that were read
module _ (s : List ℕ) (f : Frame) (item : ℕ) where
  pub head_low : {r : Refusal} → length s < item → r ≡ runs_past item → refused r ≡ code_head_at s f item
  unfolding code_head_at
  head_low h made = fails _ made (lt-leb (item + 12) (length s) (omega arith))

  module _ (p : item ≤ length s) where
    pub head_short : {r : Refusal} → length s - item < 12 → r ≡ runs_past item → refused r ≡ code_head_at s f item
    unfolding code_head_at
    head_short h made = fails _ made (lt-leb (item + 12) (length s) (omega arith))

    module _ (q : 12 ≤ length s - item) {debug : ℕ} {b : Bool} (read : debug ≡ u32_at f.order s (item + 8)) (asked : b ≡ allowed_or_absent f.start (length s) false debug) where
      there : allowed_or_absent f.start (length s) false (u32_at f.order s (item + 8)) ≡ b
      there = ap (allowed_or_absent f.start (length s) false) (sym read) ∙ sym asked

      pub head_outside : {r : Refusal} → b ≡ false → r ≡ wrong_offset item → refused r ≡ code_head_at s f item
      unfolding code_head_at
      head_outside e made = passes (runs_past item) (le-leb (item + 12) (length s) (omega arith)) (fails _ made (there ∙ e))

      pub head_late : {r : Refusal} → b ≡ true → length s - item < 16 → r ≡ runs_past item → refused r ≡ code_head_at s f item
      unfolding code_head_at
      head_late e h made = passes (runs_past item) (le-leb (item + 12) (length s) (omega arith)) (passes (wrong_offset item) (there ∙ e) (fails _ made (lt-leb (item + 16) (length s) (omega arith))))

      pub head_got : {r i u t n : ℕ} → b ≡ true → 16 ≤ length s - item → r ≡ u16_at f.order s item → i ≡ u16_at f.order s (item + 2) → u ≡ u16_at f.order s (item + 4)
          → t ≡ u16_at f.order s (item + 6) → n ≡ u32_at f.order s (item + 12) → answer (record { registers = r; ins = i; outs = u; tries = t; debug = debug; units = n }) ≡ code_head_at s f item
      unfolding code_head_at
      head_got e h a b c d g =
          passes (runs_past item) (le-leb (item + 12) (length s) (omega arith)) (passes (wrong_offset item) (there ∙ e) (passes (runs_past item) (le-leb (item + 16) (length s) (omega arith))
          (λ k. answer (record { registers = a k; ins = b k; outs = c k; tries = d k; debug = read k; units = g k }))))

-- ---- padding, and how far the tries are
module _ (tries units : ℕ) where
  pub pad_odd : 0 < tries → units % 2 ≡ 1 → 2 ≡ padding tries units
  unfolding padding
  pad_odd p q = rw (lt-ltb 0 tries p, eq-eqb (units % 2) 1 q)

  pub pad_even : 0 < tries → (units % 2 ≡ 1 → ⊥) → 0 ≡ padding tries units
  unfolding padding
  pad_even p q = rw (lt-ltb 0 tries p, ne_eqb (units % 2) 1 q)

  pub pad_none : tries ≤ 0 → 0 ≡ padding tries units
  unfolding padding
  pad_none p = rw (le-ltb 0 tries p)

pub body_of_lem : (h : CodeHead) {n : ℕ} → n ≡ padding h.tries h.units → 16 + 2 * h.units + n ≡ body_size h
unfolding body_size
body_of_lem h e = ap (λ (x : ℕ). 16 + 2 * h.units + x) e

pub ruleset pad_laws = (pad_odd, pad_even, pad_none, rules)

pub ruleset head_laws = (head_low, head_short, head_outside, head_late, head_got, rules)

pub ruleset size_laws = (body_of_lem, rules)
