-- What the proofs of lines cite: a number's digits as the writer makes them, one number behind the other, and the words of a row in turn.
-- Assumes nothing.
use Prim.Native.Nat.{ℕ, zero, suc, ◌+◌, ◌-◌, ◌*◌, ◌/◌, ◌%◌, ◌^◌, ◌≤◌, ◌<◌}
use mathlib.Core.Path.{◌≡◌, refl, ap, sym, ◌∙◌}
use mathlib.Core.Bool.{Bool, true, false, cond}
use mathlib.Core.List.{List, [], ◌∷◌, ◌++◌, append_assoc, append-nil}
use lib.ListN.{length, take, drop, get_or, drop_of_length-le}
use lib.Seq.{drop-cons}
use mir.Syntax.{w16, w64}
use mir.Val.{Fits}
use lib.Dec.{eqb}
use borrow.Author.Rules.{rules}
use borrow.Author.Tests.{lt-ltb, eq-eqb, ne_eqb}
use native.Mathlib.Nat.{pow-succ'}
use native.Mathlib.Numerals.{add-one}
use native.Mathlib.Omega.{arith}
use Rattle.io.specs.Digits.{last_digits, hex_digit_ascii, IsDigitCount}
use Rattle.report.specs.Decimal.{decimal}
use Rattle.report.specs.Stored.{Stored}
use Rattle.report.proofs.Decimals.{decimal_small, decimal_large, digits_of_64}
use Rattle.report.proofs.Laws.{stored_then, stored_nothing}
use Rattle.asking.proofs.Laws.{front_long}
use Rattle.asking.specs.Lines.{line, marked, chosen, Spelt, Laid}

-- ---- digits: the fewest that hold a number are its own
ten_some : (k : ℕ) → 1 ≤ 10 ^ k
ten_some zero = omega arith
ten_some (suc k) = let power = pow-succ' 10 k in let z = ten_some k in omega arith

last_digit : (n : ℕ) → hex_digit_ascii (n % 10) ≡ 48 + n % 10
last_digit n = rw (lt-ltb (n % 10) 10 (omega arith))

same_digits : (k n : ℕ) → IsDigitCount 10 1 n k → last_digits 10 k n ≡ decimal n
same_digits zero n f = absurd (omega arith)
same_digits (suc zero) n f =
    let small : n < 10 = omega (arith, f.1) in
    let all : n % 10 ≡ n = omega arith in
    ap (λ (d : ℕ). d ∷ []) (last_digit n ∙ ap (λ (d : ℕ). 48 + d) all) ∙ sym (decimal_small n small)
same_digits (suc (suc k)) n f =
    let power = pow-succ' 10 k in
    let more = pow-succ' 10 (suc k) in
    let z = ten_some k in
    let less : suc (suc k) - 1 ≡ suc k = omega arith in
    let low : 10 ^ suc k ≤ n = rw less at (f.2 (omega arith)) in
    let back : suc k - 1 ≡ k = omega arith in
    let rest : IsDigitCount 10 1 (n / 10) (suc k) = (omega arith, omega (arith, f.1), λ _. rw back (omega arith)) in
    ap (λ (ds : List ℕ). ds ++ (hex_digit_ascii (n % 10) ∷ [])) (same_digits (suc k) (n / 10) rest) ∙ ap (λ (d : ℕ). decimal (n / 10) ++ (d ∷ [])) (last_digit n) ∙ sym (decimal_large n (omega arith))

-- ---- a number: its digits, and the space
pub spelt_by : (n k : ℕ) (d : List ℕ) → k ≤ length d → IsDigitCount 10 1 n k → take k d ≡ last_digits 10 k n → Spelt n d k
spelt_by n k d h f e = record { own = e ∙ same_digits k n f; within = h }

module _ {n k : ℕ} {d : List ℕ} (s : Spelt n d k) where
  pub spelt_long : k ≡ length (take k d)
  spelt_long = front_long k d s.within

  few : Fits w64 n → length (take k d) ≤ 20
  few fits = let z = digits_of_64 n fits.fits in let y = ap length s.own in omega arith

  module _ (at : ℕ) (out : List ℕ) (fits : Fits w64 n) where
    pub digits_room : at + 21 ≤ length out → at + length (take k d) ≤ length out
    digits_room room = let z = few fits in omega arith

    module _ {p : ℕ} {out₁ : List ℕ} (t : Stored (take k d) at out out₁ p) where
      pub space_room : at + 21 ≤ length out → length out₁ ≡ length out → p + 1 ≤ length out₁
      space_room room same = let z = few fits in let y = t.ends in omega arith

      pub number_laid : {out₂ : List ℕ} {q : ℕ} → Stored (32 ∷ []) p out₁ out₂ q → Laid (n ∷ []) at out out₂ q
      unfolding line
      number_laid u = record {
        stored = rw append-nil (stored_then (rw s.own at t) u);
        few = let z = few fits in let y = t.ends in let x = u.ends in omega arith;
      }

pub ruleset number_laws = (spelt_long, digits_room, space_room, number_laid, rules)

-- ---- a word of a row
module _ (bits word : ℕ) where
  pub word_laid : {at next : ℕ} {before after : List ℕ} → bits % 2 ≡ 1 → Laid (word ∷ []) at before after next → Laid (marked bits word) at before after next
  unfolding marked
  word_laid e l = rw (eq-eqb (bits % 2) 1 e) l

  pub no_word : (at : ℕ) (out : List ℕ) → at + 21 ≤ length out → (bits % 2 ≡ 1 → ⊥) → Laid (marked bits word) at out out at
  unfolding marked line
  no_word at out h n = rw (ne_eqb (bits % 2) 1 n) (record { stored = stored_nothing at out (omega arith); few = omega arith })

  marked_few : length (marked bits word) ≤ 1
  unfolding marked
  marked_few = by_bit (eqb (bits % 2) 1)
    where
      by_bit : (b : Bool) → length (cond b (word ∷ []) []) ≤ 1
      by_bit true = omega arith
      by_bit false = omega arith

pub ruleset word_laws = (word_laid, no_word, rules)

-- ---- the loop over a row: the words before i are laid out, as far as they are chosen, and `bits` is left of the mask
line_append : (xs ys : List ℕ) → line (xs ++ ys) ≡ line xs ++ line ys
unfolding line
line_append [] ys = refl
line_append (x ∷ xs) ys = ap (λ (l : List ℕ). (decimal x ++ (32 ∷ [])) ++ l) (line_append xs ys) ∙ sym (append_assoc (decimal x ++ (32 ∷ [])) (line xs) (line ys))

pub record Laying (row : List ℕ) (mask : ℕ) (out₀ out : List ℕ) (bits at i : ℕ) : Type 0 where
  done : List ℕ
  so_far : Stored (line done) 0 out₀ out at
  whole : done ++ chosen bits (drop i row) ≡ chosen mask row
  pub few : at ≤ 21 * i
  pub room : 21 * length row ≤ length out
  pub long : length out ≡ length out₀

pub laying_first : (row : List ℕ) (mask : ℕ) (out : List ℕ) → 21 * length row ≤ length out → Laying row mask out out mask 0 0
unfolding line
laying_first row mask out h = record {
  done = [];
  so_far = stored_nothing 0 out (omega arith);
  whole = refl;
  few = omega arith;
  room = h;
  long = refl;
}

module _ {row : List ℕ} {mask : ℕ} {out₀ out : List ℕ} {bits at i : ℕ} (h : Laying row mask out₀ out bits at i) where
  pub laying_room : i < length row → at + 21 ≤ length out
  laying_room l = let z = h.few in let y = h.room in omega arith

  pub laying_next : {out₁ : List ℕ} {next : ℕ} → i < length row → length out₁ ≡ length out → Laid (marked bits (get_or row i 0)) at out out₁ next → Laying row mask out₀ out₁ (bits / 2) next (i + 1)
  unfolding chosen
  laying_next l same w = record {
    done = h.done ++ marked bits (get_or row i 0);
    so_far = rw (line_append h.done (marked bits (get_or row i 0))) (stored_then h.so_far w.stored);
    whole = append_assoc h.done (marked bits (get_or row i 0)) (chosen (bits / 2) (drop (i + 1) row))
        ∙ ap (λ (ws : List ℕ). h.done ++ ws) (sym (ap (chosen bits) (drop-cons row i 0 l ∙ ap (λ (k : ℕ). get_or row i 0 ∷ drop k row) (sym (add-one i)))))
        ∙ h.whole;
    few = let z = h.few in let y = w.few in let x = marked_few bits (get_or row i 0) in omega arith;
    room = let z = h.room in omega arith;
    long = same ∙ h.long;
  }

  pub laying_done : length row ≤ i → Stored (line (chosen mask row)) 0 out₀ out at
  unfolding chosen
  laying_done l =
      let none : drop i row ≡ [] = drop_of_length-le row l in
      let all : h.done ≡ chosen mask row = sym (append-nil h.done) ∙ ap (λ (ws : List ℕ). h.done ++ chosen bits ws) (sym none) ∙ h.whole in
      rw all at h.so_far

pub ruleset row_laws = (laying_first, laying_room, laying_next, laying_done, rules)

-- ---- what was stored, lent to be written
pub stored_front : {text before after : List ℕ} {next : ℕ} → Stored text 0 before after next → length after ≡ length before → next ≡ length (take next after)
stored_front {after} {next} s same = front_long next after (let z = s.room in let y = s.ends in omega arith)

pub ruleset written_laws = (stored_front, rules)

-- ---- a unit as a number to be written
pub unit_fits : (s : List ℕ) (i : ℕ) → ((k : ℕ) → Fits w16 (get_or s k 0)) → Fits w64 (get_or s i 0)
unit_fits s i h = omega (arith, h i)
