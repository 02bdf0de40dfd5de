-- What the proofs of questions and turns cite: a question from the numbers that were read, and that each turn leaves less.
-- Assumes nothing.
use Prim.Native.Nat.{ℕ, ◌+◌, ◌-◌, ◌*◌, ◌≤◌, ◌<◌}
use mathlib.Core.Path.{◌≡◌, ap}
use mathlib.Core.List.{List}
use lib.ListN.{get_or}
use borrow.Author.Rules.{rules}
use borrow.Author.Tests.{eq-eqb, ne_eqb}
use native.Mathlib.Omega.{arith}
use mir.Syntax.{w32}
use mir.Val.{Fits}
use Rattle.word.specs.Bytes.{part}
use Rattle.word.specs.Words.{u16_at, u32_at}
use Rattle.word.specs.declared.Endian.TheVariants.{Little}
use Rattle.asking.specs.declared.Question.{Question}
use Rattle.asking.specs.declared.Turn.{Turn}
use Rattle.asking.specs.Questions.{number_at, question_by, question_of}
use Rattle.asking.specs.Turns.{turn_of, to_go}

-- ---- a number by its width
module _ (width : ℕ) (s : List ℕ) (at : ℕ) {r : ℕ} where
  pub number_one : width ≡ 1 → r ≡ get_or s at 0 → r ≡ number_at width s at
  unfolding number_at
  number_one e h = rw (eq-eqb width 1 e) h

  module _ (more : width ≡ 1 → ⊥) where
    pub number_two : width ≡ 2 → r ≡ u16_at Little s at → r ≡ number_at width s at
    unfolding number_at
    number_two e h = rw (ne_eqb width 1 more, eq-eqb width 2 e) h

    pub number_four : (width ≡ 2 → ⊥) → r ≡ u32_at Little s at → r ≡ number_at width s at
    unfolding number_at
    number_four n h = rw (ne_eqb width 1 more, ne_eqb width 2 n) h

-- ---- a question from its numbers
pub question_by_lem : (s : List ℕ) {width reader low high a b c d e more : ℕ} → width ≡ get_or s 4 0 → reader ≡ get_or s 0 0 → low ≡ u16_at Little s 1 → high ≡ get_or s 3 0
    → a ≡ number_at width s 6 → b ≡ number_at width s (6 + width) → c ≡ number_at width s (6 + 2 * width) → d ≡ number_at width s (6 + 3 * width)
    → e ≡ number_at width s (6 + 4 * width) → more ≡ get_or s 5 0
    → record { reader = reader; mask = low + 65536 * high; a = a; b = b; c = c; d = d; e = e; size = 6 + 5 * width; more = more } ≡ question_of s
unfolding question_of question_by
question_by_lem s h i j k l m n o p q = rw (← h, ← i, ← j, ← k, ← l, ← m, ← n, ← o, ← p, ← q)

-- it has bytes of its own
question_some : (q : Question) (s : List ℕ) → q ≡ question_of s → 6 ≤ q.size
unfolding question_of question_by
question_some q s e = let size : q.size ≡ 6 + 5 * get_or s 4 0 = ap (λ (p : Question). p.size) e in omega arith

pub ruleset question_laws = (number_one, number_two, number_four, question_by_lem, rules)

-- ---- turns
pub asked_past : (s r : List ℕ) (at end : ℕ) → end < at → r ≡ part s at 0 → r ≡ part s at (end - at)
asked_past s r at end h e = let none : end - at ≡ 0 = omega arith in rw none e

pub turn_by : (head : List ℕ) (left front : ℕ) {label length size : ℕ} → label ≡ u16_at Little head 4 → length ≡ u16_at Little head 6 → size ≡ u32_at Little head 0
    → record { left = left; start = label; length = front + length; at = label + (front + length); end = size } ≡ turn_of head left front
unfolding turn_of
turn_by head left front h i j = rw (← h, ← i, ← j)

pub turn_less : (head : List ℕ) (left front : ℕ) (t : Turn) → t ≡ turn_of head left front → Fits w32 t.end → to_go t < 4294967296 * (left + 1)
unfolding turn_of
turn_less head left front t e f = let same : t.left ≡ left = ap (λ (u : Turn). u.left) e in omega (arith, f.fits)

pub next_less : (t : Turn) (q : Question) (s : List ℕ) → q ≡ question_of s → t.at < t.end → q.size + q.more < t.end - t.at
    → 4294967296 * t.left + (t.end - (t.at + (q.size + q.more))) ≤ 4294967296 * t.left + (t.end - t.at) - 1
next_less t q s e h l = let z = question_some q s e in omega arith

pub ruleset turn_laws = (asked_past, turn_by, turn_less, next_less, rules)
