-- The digits of a number: one more digit at a time, how many there are, and that they are the number's.
-- Assumes nothing.
use Prim.Native.Nat.{ℕ, zero, suc, ◌+◌, ◌-◌, ◌*◌, ◌/◌, ◌%◌, ◌^◌, ◌≤◌, ◌<◌}
use mathlib.Core.Path.{◌≡◌, refl, ap, sym, ◌∙◌}
use mathlib.Core.Bool.{Bool, true, false}
use mathlib.Core.List.{List, [], ◌∷◌, ◌++◌}
use lib.ListN.{length, length-append}
use lib.Dec.{ltb}
use borrow.Author.Tests.{lt-ltb, le-ltb, ltb-true, ltb-false}
use native.Mathlib.Nat.{pow-succ'}
use native.Mathlib.Omega.{arith}
use Rattle.report.specs.Decimal.{digits_in, decimal, valued, Digits, none, digit, Decimal}

-- by the test whether a number has one digit
by_ten : {P : Type 0} (n : ℕ) → (n < 10 → P) → (10 ≤ n → P) → P
by_ten {P} n small large = pick (ltb n 10) (λ e. small (ltb-true n 10 e)) (λ e. large (ltb-false n 10 e)) refl
  where
    pick : (b : Bool) → (b ≡ true → P) → (b ≡ false → P) → b ≡ b → P
    pick true s l e = s refl
    pick false s l e = l refl

digits_small : (k n : ℕ) → n < 10 → digits_in (suc k) n ≡ (48 + n) ∷ []
unfolding digits_in
digits_small k n h = rw (lt-ltb n 10 h)

digits_large : (k n : ℕ) → 10 ≤ n → digits_in (suc k) n ≡ digits_in k (n / 10) ++ ((48 + n % 10) ∷ [])
unfolding digits_in
digits_large k n h = rw (le-ltb n 10 h)

-- more room than there are digits does not matter
enough : (k m n : ℕ) → n < k → n < m → digits_in k n ≡ digits_in m n
enough zero m n h g = absurd (omega arith)
enough (suc k) zero n h g = absurd (omega arith)
enough (suc k) (suc m) n h g =
    by_ten n
    (λ s. digits_small k n s ∙ sym (digits_small m n s))
    (λ l. digits_large k n l ∙ ap (λ (ds : List ℕ). ds ++ ((48 + n % 10) ∷ [])) (enough k m (n / 10) (omega arith) (omega arith)) ∙ sym (digits_large m n l))

pub decimal_small : (n : ℕ) → n < 10 → decimal n ≡ (48 + n) ∷ []
unfolding decimal
decimal_small n h = digits_small n n h

pub decimal_large : (n : ℕ) → 10 ≤ n → decimal n ≡ decimal (n / 10) ++ ((48 + n % 10) ∷ [])
unfolding decimal
decimal_large n h = digits_large n n h ∙ ap (λ (ds : List ℕ). ds ++ ((48 + n % 10) ∷ [])) (enough n (suc (n / 10)) (n / 10) (omega arith) (omega arith))

-- a number below 10 ^ k has at most k digits, where k is not 0
pub few_digits : (k n : ℕ) → n < 10 ^ suc k → length (decimal n) ≤ suc k
few_digits zero n h = let z = ap length (decimal_small n (omega arith)) in omega arith
few_digits (suc k) n h =
    by_ten n
    (λ s. let z = ap length (decimal_small n s) in omega arith)
    (λ l.
    let power = pow-succ' 10 (suc k) in
    let z = few_digits k (n / 10) (omega arith) in
    let y = ap length (decimal_large n l) in
    let x = length-append (decimal (n / 10)) ((48 + n % 10) ∷ []) in
    omega arith)

-- 64 bits are at most 20 digits
pub digits_of_64 : (n : ℕ) → n < 2 ^ 64 → length (decimal n) ≤ 20
digits_of_64 n h = few_digits 19 n (omega arith)

-- ---- the digits of n are n's
valued_append : (b : ℕ) (xs ys : List ℕ) → valued b (xs ++ ys) ≡ valued (valued b xs) ys
unfolding valued
valued_append b [] ys = refl
valued_append b (x ∷ xs) ys = valued_append (10 * b + (x - 48)) xs ys

digits_append : {xs ys : List ℕ} → Digits xs → Digits ys → Digits (xs ++ ys)
digits_append none e = e
digits_append (digit l h d) e = digit l h (digits_append d e)

one_more : (n : ℕ) (ds : List ℕ) → 10 ≤ n → Decimal (n / 10) ds → Decimal n (ds ++ ((48 + n % 10) ∷ []))
unfolding valued
one_more n ds l d = record {
  digits = digits_append d.digits (digit {d = 48 + n % 10} (omega arith) (omega arith) none);
  says = valued_append 0 ds ((48 + n % 10) ∷ []) ∙ (let z = d.says in omega arith);
  first = d.first;
  others = d.others ++ ((48 + n % 10) ∷ []);
  begins = ap (λ (xs : List ℕ). xs ++ ((48 + n % 10) ∷ [])) d.begins;
  no_zero = λ p. d.no_zero (omega arith);
  alone = λ e. absurd (omega arith);
}

only : (n : ℕ) → n < 10 → Decimal n ((48 + n) ∷ [])
unfolding valued
only n h = record {
  digits = digit {d = 48 + n} (omega arith) (omega arith) none;
  says = omega arith;
  first = 48 + n;
  others = [];
  begins = refl;
  no_zero = λ p. omega arith;
  alone = λ e. refl;
}

within : (k n : ℕ) → n < k → Decimal n (digits_in k n)
within zero n h = absurd (omega arith)
within (suc k) n h =
    by_ten n
    (λ s. rw (digits_small k n s) (only n s))
    (λ l. rw (digits_large k n l) (one_more n (digits_in k (n / 10)) l (within k (n / 10) (omega arith))))

-- the digits that the report writes read back to the number, and no zero stands in front
pub decimal_reads_back : (n : ℕ) → Decimal n (decimal n)
unfolding decimal
decimal_reads_back n = within (suc n) n (omega arith)
