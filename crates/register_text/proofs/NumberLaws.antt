-- What the functions' proofs cite of numbers: a minus before digits, and hexadecimal digits from the last to the first.
-- Assumes nothing.
use Prim.Native.Nat.{ℕ, zero, suc, ◌+◌, ◌-◌, ◌/◌, ◌%◌, ◌≤◌, ◌<◌}
use mathlib.Core.Path.{◌≡◌, refl, ap, sym, ◌∙◌}
use mathlib.Core.Bool.{Bool, true, false}
use mathlib.Core.List.{List, [], ◌∷◌, ◌++◌, append_assoc, append-nil}
use lib.ListN.{length, take, drop, set, length-append, length-drop, length-set, drop_of_length-le}
use lib.Seq.{take_all, drop_at, set_split, length-take-le}
use borrow.Author.Rules.{rules}
use borrow.Author.Tests.{le-ltb}
use native.Mathlib.Omega.{arith}
use mir.Syntax.{w64}
use mir.Val.{Fits, SFits, to_z, of_z}
use mir.ValLaws.{to_z-of_z}
use lib.IntN.{ℤ, pos, negsuc}
use lib.Signed.{lt_z}
use Rattle.sign.specs.Magnitude.{magnitude}
use Rattle.refusal.specs.Refusals.{no_room}
use Rattle.refusal.specs.declared.Refusal.{Refusal}
use Rattle.refusal.specs.Outcome.{Outcome, answer, refused}
use Rattle.report.specs.Decimal.{decimal}
use Rattle.report.specs.Stored.{written, content}
use Rattle.report.proofs.Laws.{short_answer, short_content, got_length, refused_length, written_fits, content_fits}
use Rattle.register_text.specs.Escapes.{hex}
use Rattle.register_text.specs.Numbers.{signed, integer, hexadecimal}

-- ---- the sign
module _ (negative : Bool) (n : ℕ) where
  pub minus_answer : (k : ℕ) {said : Outcome ℕ} → negative ≡ true → said ≡ written (signed true n) k → said ≡ written (signed negative n) k
  minus_answer k e w = rw e w

  pub minus_content : (out : List ℕ) {after : List ℕ} → negative ≡ true → after ≡ content (signed true n) out → after ≡ content (signed negative n) out
  minus_content out e w = rw e w

  pub plus_answer : (k : ℕ) {said : Outcome ℕ} → negative ≡ false → said ≡ written (decimal n) k → said ≡ written (signed negative n) k
  unfolding signed
  plus_answer k e w = rw e w

  pub plus_content : (out : List ℕ) {after : List ℕ} → negative ≡ false → after ≡ content (decimal n) out → after ≡ content (signed negative n) out
  unfolding signed
  plus_content out e w = rw e w

pub ruleset signed_laws = (minus_answer, minus_content, plus_answer, plus_content, rules)

-- a signed number is its magnitude with its sign
by_sign : (z : ℤ) → integer z ≡ signed (lt_z z (pos 0)) (magnitude z)
unfolding integer magnitude
by_sign (pos n) = rw (le-ltb n 0 (omega arith))
by_sign (negsuc n) = let more : suc n ≡ n + 1 = omega arith in ap (λ (k : ℕ). signed true k) more

module _ (z : ℤ) (f : SFits w64 z) {m : ℕ} (e : m ≡ magnitude (to_z w64 (of_z w64 z))) (negative : Bool) (t : lt_z (to_z w64 (of_z w64 z)) (pos 0) ≡ negative) where
  with_its_sign : signed negative m ≡ integer z
  with_its_sign = rw (e, ← t, to_z-of_z w64 z f) (sym (by_sign z))

  integer_answer : (k : ℕ) {said : Outcome ℕ} → said ≡ written (signed negative m) k → said ≡ written (integer z) k
  integer_answer k w = w ∙ ap (λ (l : List ℕ). written l k) with_its_sign

  integer_content : (out : List ℕ) {after : List ℕ} → after ≡ content (signed negative m) out → after ≡ content (integer z) out
  integer_content out w = w ∙ ap (λ (l : List ℕ). content l out) with_its_sign

module _ (z : ℤ) (f : SFits w64 z) {m : ℕ} (e : m ≡ magnitude (to_z w64 (of_z w64 z))) where
  pub below_answer : (k : ℕ) {said : Outcome ℕ} → lt_z (to_z w64 (of_z w64 z)) (pos 0) ≡ true → said ≡ written (signed true m) k → said ≡ written (integer z) k
  below_answer k t w = integer_answer z f e true t k w

  pub below_content : (out : List ℕ) {after : List ℕ} → lt_z (to_z w64 (of_z w64 z)) (pos 0) ≡ true → after ≡ content (signed true m) out → after ≡ content (integer z) out
  below_content out t w = integer_content z f e true t out w

  pub above_answer : (k : ℕ) {said : Outcome ℕ} → lt_z (to_z w64 (of_z w64 z)) (pos 0) ≡ false → said ≡ written (signed false m) k → said ≡ written (integer z) k
  above_answer k t w = integer_answer z f e false t k w

  pub above_content : (out : List ℕ) {after : List ℕ} → lt_z (to_z w64 (of_z w64 z)) (pos 0) ≡ false → after ≡ content (signed false m) out → after ≡ content (integer z) out
  above_content out t w = integer_content z f e false t out w

pub ruleset integer_laws = (below_answer, below_content, above_answer, above_content, rules)

-- a minus in front of digits that went to the rest of an output
module _ (n : ℕ) (out : List ℕ) where
  long : length (signed true n) ≡ suc (length (decimal n))
  unfolding signed
  long = refl

  pub none_answer : {r : Refusal} → length out < 1 → r ≡ no_room → refused r ≡ written (signed true n) (length out)
  none_answer l made = short_answer (signed true n) out (let z = long in omega arith) made

  pub none_content : length out < 1 → out ≡ content (signed true n) out
  none_content l = short_content (signed true n) out (let z = long in omega arith)

  rest_whole : take (length out - 1) (drop 1 out) ≡ drop 1 out
  rest_whole = take_all (length out - 1) (drop 1 out) (let z = length-drop 1 out in omega arith)

  nothing_after : drop (length out - 1) (drop 1 out) ≡ []
  nothing_after = drop_of_length-le (drop 1 out) {i = length out - 1} (let z = length-drop 1 out in omega arith)

  rest_long : length (take (length out - 1) (drop 1 out)) ≡ length out - 1
  rest_long = ap length rest_whole ∙ length-drop 1 out

  module _ (some : 1 ≤ length out) where
    module _ {r : Refusal} (e : refused r ≡ written (decimal n) (length (take (length out - 1) (drop 1 out)))) where
      short : length (take (length out - 1) (drop 1 out)) < length (decimal n)
      short = refused_length (decimal n) _ r e

      pub short_minus_answer : refused r ≡ written (signed true n) (length out)
      short_minus_answer =
          e
          ∙ sym (short_answer (decimal n) (take (length out - 1) (drop 1 out)) short refl)
          ∙ short_answer (signed true n) out (let z = long in let y = rest_long in let w = short in omega arith) refl

      pub short_minus_content : (last : List ℕ) → last ≡ content (decimal n) (take (length out - 1) (drop 1 out)) → take 1 out ++ (last ++ drop (length out - 1) (drop 1 out)) ≡ content (signed true n) out
      short_minus_content last w =
          rw (nothing_after, append-nil, w ∙ sym (short_content (decimal n) (take (length out - 1) (drop 1 out)) short), rest_whole)
          (front_again out ∙ short_content (signed true n) out (let z = long in let y = rest_long in let v = short in omega arith))
        where
          front_again : (l : List ℕ) → take 1 l ++ drop 1 l ≡ l
          front_again [] = refl
          front_again (a ∷ l) = refl

    module _ {k : ℕ} (e : answer k ≡ written (decimal n) (length (take (length out - 1) (drop 1 out)))) where
      got : (k ≡ length (decimal n)) × (length (decimal n) ≤ length (take (length out - 1) (drop 1 out)))
      got = got_length (decimal n) _ k e

      pub minus_fits : Fits w64 (length out) → Fits w64 (k + 1)
      minus_fits f = record { fits = let z = got.0 in let y = got.1 in let w = rest_long in let v = f.fits in omega arith }

      pub minus_front : (last : List ℕ) → 0 < length (take 1 out ++ (last ++ drop (length out - 1) (drop 1 out)))
      minus_front last = simp length-append (let z = one_front out some in omega arith)
        where
          one_front : (l : List ℕ) → 1 ≤ length l → length (take 1 l) ≡ 1
          one_front [] h = absurd (omega arith)
          one_front (a ∷ l) h = refl

      pub whole_minus_answer : answer (k + 1) ≡ written (signed true n) (length out)
      whole_minus_answer =
          let same : k + 1 ≡ length (signed true n) = let z = got.0 in let y = long in omega arith in
          ap answer same ∙ written_fits (signed true n) (length out) (let z = got.0 in let y = got.1 in let w = rest_long in omega arith)

      pub whole_minus_content : (last : List ℕ) → last ≡ content (decimal n) (take (length out - 1) (drop 1 out)) → set (take 1 out ++ (last ++ drop (length out - 1) (drop 1 out))) 0 45 ≡ content (signed true n) out
      unfolding signed
      whole_minus_content last w =
          let room : length (decimal n) ≤ length (drop 1 out) = let z = got.1 in let y = rest_long in let v = length-drop 1 out in omega arith in
          let all : length (45 ∷ decimal n) ≤ length out = let z = got.1 in let y = rest_long in omega arith in
          rw (nothing_after, append-nil, w, rest_whole, content_fits (decimal n) (drop 1 out) room, content_fits (45 ∷ decimal n) out all) (put_front out some)
        where
          put_front : (l : List ℕ) → 1 ≤ length l → set (take 1 l ++ (decimal n ++ drop (length (decimal n)) (drop 1 l))) 0 45 ≡ 45 ∷ (decimal n ++ drop (suc (length (decimal n))) l)
          put_front [] h = absurd (omega arith)
          put_front (a ∷ l) h = refl

pub ruleset minus_laws = (none_answer, none_content, short_minus_answer, short_minus_content, minus_fits, minus_front, whole_minus_answer, whole_minus_content, rules)

-- ---- hexadecimal digits: i of them are still to be written, those of `rest`
pub hexadecimal_long : (k n : ℕ) → length (hexadecimal k n) ≡ k
unfolding hexadecimal
hexadecimal_long zero n = refl
hexadecimal_long (suc k) n = length-append (hexadecimal k (n / 16)) (hex (n % 16) ∷ []) ∙ (let z = hexadecimal_long k (n / 16) in omega arith)

pub record Digiting (digits n : ℕ) (out₀ out : List ℕ) (i rest : ℕ) : Type 0 where
  so_far : hexadecimal digits n ++ drop digits out₀ ≡ hexadecimal i rest ++ drop i out
  pub few : i ≤ digits
  pub room : digits ≤ length out₀
  pub long : length out ≡ length out₀

module _ (digits n : ℕ) (out : List ℕ) where
  pub hex_short_answer : {r : Refusal} → length out < digits → r ≡ no_room → refused r ≡ written (hexadecimal digits n) (length out)
  hex_short_answer l made = short_answer (hexadecimal digits n) out (let z = hexadecimal_long digits n in omega arith) made

  pub hex_short_content : length out < digits → out ≡ content (hexadecimal digits n) out
  hex_short_content l = short_content (hexadecimal digits n) out (let z = hexadecimal_long digits n in omega arith)

  pub hex_first : digits ≤ length out → Digiting digits n out out digits n
  hex_first h = record { so_far = refl; few = omega arith; room = h; long = refl }

module _ {digits n : ℕ} {out₀ out : List ℕ} {i rest : ℕ} (h : Digiting digits n out₀ out i rest) where
  pub hex_in : 0 < i → i - 1 < length out
  hex_in l = let z = h.few in let y = h.room in let x = h.long in omega arith

  pub hex_next : {d : ℕ} → 0 < i → d ≡ hex (rest % 16) → Digiting digits n out₀ (set out (i - 1) d) (i - 1) (rest / 16)
  unfolding hexadecimal
  hex_next {d} l e = by i refl l
    where
      cut : (j : ℕ) → j < length out → drop j (set out j d) ≡ d ∷ drop (suc j) out
      cut j inside = ap (λ (t : List ℕ). drop j t) (set_split out j d inside) ∙ drop_at (take j out) (d ∷ drop (suc j) out) j (length-take-le j out (omega arith))

      one : (j : ℕ) → i ≡ suc j → hexadecimal digits n ++ drop digits out₀ ≡ hexadecimal j (rest / 16) ++ drop j (set out j d)
      one j s =
          let inside : j < length out = let z = h.few in let y = h.room in let x = h.long in omega arith in
          h.so_far
          ∙ ap (λ (k : ℕ). hexadecimal k rest ++ drop k out) s
          ∙ append_assoc (hexadecimal j (rest / 16)) (hex (rest % 16) ∷ []) (drop (suc j) out)
          ∙ ap (λ (t : List ℕ). hexadecimal j (rest / 16) ++ t) (ap (λ (b : ℕ). b ∷ drop (suc j) out) (sym e) ∙ sym (cut j inside))

      by : (m : ℕ) → i ≡ m → 0 < m → Digiting digits n out₀ (set out (i - 1) d) (i - 1) (rest / 16)
      by zero s l = absurd (omega arith)
      by (suc j) s l =
          let back : i - 1 ≡ j = omega arith in
          rw back (record { so_far = one j s; few = let z = h.few in omega arith; room = h.room; long = length-set out j d ∙ h.long })

  pub hex_done_answer : answer digits ≡ written (hexadecimal digits n) (length out₀)
  hex_done_answer = ap answer (sym (hexadecimal_long digits n)) ∙ written_fits (hexadecimal digits n) (length out₀) (let z = hexadecimal_long digits n in let y = h.room in omega arith)

  pub hex_done_content : i ≤ 0 → out ≡ content (hexadecimal digits n) out₀
  unfolding hexadecimal
  hex_done_content l =
      let none : i ≡ 0 = omega arith in
      let same = hexadecimal_long digits n in
      sym (content_fits (hexadecimal digits n) out₀ (let z = same in let y = h.room in omega arith) ∙ ap (λ (k : ℕ). hexadecimal digits n ++ drop k out₀) same ∙ h.so_far ∙ ap (λ (k : ℕ). hexadecimal k rest ++ drop k out) none)

pub last_digit : (n : ℕ) → n % 16 < 16
last_digit n = omega arith

pub ruleset hex_laws = (hex_short_answer, hex_short_content, hex_first, hex_in, hex_next, hex_done_answer, hex_done_content, last_digit, rules)
