-- What the functions' proofs cite of texts: which bytes are special, the writing of one byte, and the going over a text.
-- Assumes nothing.
use Prim.Native.Nat.{max, ℕ, suc, ◌+◌, ◌-◌, ◌/◌, ◌%◌, ◌≤◌, ◌<◌}
use mathlib.Core.Path.{◌≡◌, refl, ap, sym, ◌∙◌}
use mathlib.Core.Bool.{Bool, true, false}
use mathlib.Core.List.{List, [], ◌∷◌, ◌++◌, append_assoc, append-nil}
use lib.ListN.{length, take, drop, get_or, length-append, drop_of_length-le}
use lib.Seq.{take_at, drop-cons}
use lib.Dec.{leb, eqb}
use borrow.Author.Rules.{rules}
use borrow.Author.Tests.{lt-ltb, le-ltb, le-leb, lt-leb, eq-eqb, ne_eqb, leb-true, leb-false}
use native.Mathlib.Numerals.{add-one}
use native.Mathlib.Omega.{arith}
use mir.Syntax.{w8}
use mir.Val.{Fits}
use Rattle.report.specs.Stored.{placed, Stored}
use Rattle.report.proofs.Laws.{stored_then, stored_byte, stored_long}
use Rattle.register_text.specs.Escapes.{in_key, special, hex, form, escaped, fitting, piece_of, Pieced}

-- ---- which bytes are special
module _ (b : ℕ) where
  pub point_in_key : b ≡ 46 → true ≡ in_key b
  unfolding in_key
  point_in_key e = rw (eq-eqb b 46 e)

  module _ (one : b ≡ 46 → ⊥) where
    pub open_in_key : b ≡ 91 → true ≡ in_key b
    unfolding in_key
    open_in_key e = rw (ne_eqb b 46 one, eq-eqb b 91 e)

    module _ (two : b ≡ 91 → ⊥) where
      pub close_in_key : b ≡ 93 → true ≡ in_key b
      unfolding in_key
      close_in_key e = rw (ne_eqb b 46 one, ne_eqb b 91 two, eq-eqb b 93 e)

      pub at_in_key : (b ≡ 93 → ⊥) → eqb b 64 ≡ in_key b
      unfolding in_key
      at_in_key three = rw (ne_eqb b 46 one, ne_eqb b 91 two, ne_eqb b 93 three)

pub ruleset sign_laws = (point_in_key, open_in_key, close_in_key, at_in_key, rules)

module _ (key : Bool) (b : ℕ) where
  pub low_special : b < 32 → true ≡ special key b
  unfolding special
  low_special l = rw (lt-ltb b 32 l)

  module _ (one : 32 ≤ b) where
    pub delete_special : b ≡ 127 → true ≡ special key b
    unfolding special
    delete_special e = rw (le-ltb b 32 one, eq-eqb b 127 e)

    module _ (two : b ≡ 127 → ⊥) where
      pub slash_special : b ≡ 92 → true ≡ special key b
      unfolding special
      slash_special e = rw (le-ltb b 32 one, ne_eqb b 127 two, eq-eqb b 92 e)

      module _ (three : b ≡ 92 → ⊥) where
        pub key_special : {r : Bool} → key ≡ true → r ≡ in_key b → r ≡ special key b
        unfolding special
        key_special k e = rw (le-ltb b 32 one, ne_eqb b 127 two, ne_eqb b 92 three, k) e

        pub none_special : key ≡ false → false ≡ special key b
        unfolding special
        none_special k = rw (le-ltb b 32 one, ne_eqb b 127 two, ne_eqb b 92 three, k)

pub ruleset special_laws = (low_special, delete_special, slash_special, key_special, none_special, rules)

-- ---- the writing of one byte
pub form_special : (key : Bool) (b : ℕ) → special key b ≡ true → form key b ≡ 92 ∷ 120 ∷ hex (b / 16) ∷ hex (b % 16) ∷ []
unfolding form
form_special key b e = rw e

pub form_plain : (key : Bool) (b : ℕ) → special key b ≡ false → form key b ≡ b ∷ []
unfolding form
form_plain key b e = rw e

module _ (key : Bool) (b : ℕ) {t : Bool} (s : t ≡ special key b) where
  pub four_long : t ≡ true → 4 ≡ length (form key b)
  four_long e = sym (ap length (form_special key b (sym s ∙ e)))

  pub one_long : t ≡ false → 1 ≡ length (form key b)
  one_long e = sym (ap length (form_plain key b (sym s ∙ e)))

  module _ (at : ℕ) (out : List ℕ) (room : at + length (form key b) ≤ length out) where
    pub four_room : t ≡ true → at + 4 ≤ length out
    four_room e = let z = four_long e in omega arith

    pub one_room : t ≡ false → at < length out
    one_room e = let z = one_long e in omega arith

  module _ {at next : ℕ} {out after : List ℕ} where
    pub special_stored : t ≡ true → Stored (92 ∷ 120 ∷ hex (b / 16) ∷ hex (b % 16) ∷ []) at out after next → Stored (form key b) at out after next
    special_stored e w = rw (form_special key b (sym s ∙ e)) w

    pub plain_stored : t ≡ false → Stored (b ∷ []) at out after next → Stored (form key b) at out after next
    plain_stored e w = rw (form_plain key b (sym s ∙ e)) w

pub ruleset form_laws = (four_long, one_long, four_room, one_room, special_stored, plain_stored, rules)

pub small_hex : (d : ℕ) → d < 10 → 48 + d ≡ hex d
unfolding hex
small_hex d l = rw (lt-ltb d 10 l)

pub large_hex : (d : ℕ) → 10 ≤ d → 87 + d ≡ hex d
unfolding hex
large_hex d l = rw (le-ltb d 10 l)

pub high_digit : (b : ℕ) → Fits w8 b → b / 16 < 16
high_digit b f = let z = f.fits in omega arith

pub low_digit : (b : ℕ) → b % 16 < 16
low_digit b = omega arith

pub ruleset hex_laws = (small_hex, large_hex, rules)

-- four bytes in turn
module _ (at : ℕ) (out : List ℕ) (h : at + 4 ≤ length out) where
  pub first_room : at < length out
  first_room = omega arith

  module _ {a p : ℕ} {o₁ : List ℕ} (s : Stored (a ∷ []) at out o₁ p) where
    pub second_room : p < length o₁
    second_room = let z = s.ends in let y = stored_long s in omega arith

    module _ {b q : ℕ} {o₂ : List ℕ} (t : Stored (b ∷ []) p o₁ o₂ q) where
      pub third_room : q < length o₂
      third_room = let z = s.ends in let y = stored_long s in let x = t.ends in let w = stored_long t in omega arith

      module _ {c r : ℕ} {o₃ : List ℕ} (u : Stored (c ∷ []) q o₂ o₃ r) where
        pub fourth_room : r < length o₃
        fourth_room = let z = s.ends in let y = stored_long s in let x = t.ends in let w = stored_long t in let v = u.ends in let k = stored_long u in omega arith

        pub four_stored : {c' d d' e : ℕ} {o₄ : List ℕ} → c ≡ c' → d ≡ d' → Stored (d ∷ []) r o₃ o₄ e → Stored (a ∷ b ∷ c' ∷ d' ∷ []) at out o₄ e
        four_stored cc' dd' w = rw (← cc', ← dd') (stored_then s (stored_then t (stored_then u w)))

pub ruleset escape_laws = (high_digit, low_digit, first_room, second_room, third_room, fourth_room, four_stored, rules)

pub ruleset byte_laws = (stored_byte, rules)

-- ---- the going over a text: what was written of it, and the rest that may still fit
escaped_append : (key : Bool) (xs ys : List ℕ) → escaped key (xs ++ ys) ≡ escaped key xs ++ escaped key ys
unfolding escaped
escaped_append key [] ys = refl
escaped_append key (x ∷ xs) ys = ap (λ (l : List ℕ). form key x ++ l) (escaped_append key xs ys) ∙ sym (append_assoc (form key x) (escaped key xs) (escaped key ys))

escaped_one : (key : Bool) (b : ℕ) → escaped key (b ∷ []) ≡ form key b
unfolding escaped
escaped_one key b = append-nil (form key b)

pub record Escaping (key : Bool) (text : List ℕ) (from : ℕ) (out₀ out : List ℕ) (i p : ℕ) : Type 0 where
  finished : List ℕ
  split : drop from text ≡ finished ++ drop i text
  pub count : i ≡ from + length finished
  pub past : length text ≤ from → i ≡ from
  pub so_far : Stored (escaped key finished) 0 out₀ out p
  rest : fitting key (drop from text) (length out₀) ≡ length finished + fitting key (drop i text) (length out₀ - p)
  pub long : length out ≡ length out₀

pub escape_first : (key : Bool) (text : List ℕ) (from : ℕ) (out : List ℕ) → Escaping key text from out out from 0
unfolding escaped placed
escape_first key text from out = record {
  finished = [];
  split = refl;
  count = omega arith;
  past = λ l. refl;
  so_far = record { room = omega arith; content = refl; ends = refl };
  rest = let none : length out ≡ length out - 0 = omega arith in let z = ap (λ (k : ℕ). fitting key (drop from text) k) none in omega arith;
  long = refl;
}

module _ {key : Bool} {text : List ℕ} {from : ℕ} {out₀ out : List ℕ} {i p : ℕ} (h : Escaping key text from out₀ out i p) where
  pub escape_within : p ≤ length out
  escape_within = let z = h.so_far.ends in let y = h.so_far.room in let x = h.long in omega arith

  byte_next : i < length text → drop i text ≡ get_or text i 0 ∷ drop (i + 1) text
  byte_next l = drop-cons text i 0 l ∙ ap (λ (k : ℕ). get_or text i 0 ∷ drop k text) (sym (add-one i))

  pub escape_room : {size : ℕ} → size ≡ length (form key (get_or text i 0)) → size ≤ length out - p → p + length (form key (get_or text i 0)) ≤ length out
  escape_room e l = let z = escape_within in omega arith

  -- nothing more fits
  stops : fitting key (drop i text) (length out₀ - p) ≡ 0 → Pieced key text from out₀ out i p
  unfolding piece_of
  stops e =
      let all : fitting key (drop from text) (length out₀) ≡ length h.finished = h.rest ∙ (let z = e in omega arith) in
      let same : take (fitting key (drop from text) (length out₀)) (drop from text) ≡ h.finished = ap (λ (k : ℕ). take k (drop from text)) all ∙ ap (λ (l : List ℕ). take (length h.finished) l) h.split ∙ take_at h.finished (drop i text) (length h.finished) refl in
      record {
        goes_on = let z = h.count in omega arith;
        stored = rw same h.so_far;
      }

  pub escape_stop : {size : ℕ} → i < length text → size ≡ length (form key (get_or text i 0)) → length out - p < size → Pieced key text from out₀ out i p
  unfolding fitting
  escape_stop l e f =
      let short : length out₀ - p < length (form key (get_or text i 0)) = let z = h.long in omega arith in
      stops (rw (byte_next l, lt-leb (length (form key (get_or text i 0))) (length out₀ - p) short))

  -- where the walk ended: at the text's end, or where it began if that is past it
  ended : length text ≤ i → (from ≤ length text → i ≤ length text) → max from (length text) ≡ i
  ended l f = by_end (leb from (length text)) refl
    where
      by_end : (t : Bool) → leb from (length text) ≡ t → max from (length text) ≡ i
      by_end true e = let z = f (leb-true from (length text) e) in let y = leb-true from (length text) e in omega arith
      by_end false e = let y = leb-false from (length text) e in let z = h.past (omega arith) in omega arith

  pub escape_done : {m : ℕ} → m ≡ max from (length text) → length text ≤ i → (from ≤ length text → i ≤ length text) → Pieced key text from out₀ out m p
  unfolding fitting
  escape_done e l f = rw (e ∙ ended l f) (stops (rw (drop_of_length-le text l)))

  pub escape_next : {o : List ℕ} {q : ℕ} → i < length text → Stored (form key (get_or text i 0)) p out o q → Escaping key text from out₀ o (i + 1) q
  unfolding fitting
  escape_next {o} {q} l s =
      let b = get_or text i 0 in
      let room : length (form key b) ≤ length out₀ - p = let z = s.room in let y = h.long in omega arith in
      let less : length out₀ - p - length (form key b) ≡ length out₀ - q = let z = s.ends in omega arith in
      let after : fitting key (drop i text) (length out₀ - p) ≡ suc (fitting key (drop (i + 1) text) (length out₀ - q)) = rw (byte_next l, le-leb (length (form key b)) (length out₀ - p) room, less) in
      let more = length-append h.finished (b ∷ []) in
      record {
        finished = h.finished ++ (b ∷ []);
        split = h.split ∙ ap (λ (t : List ℕ). h.finished ++ t) (byte_next l) ∙ sym (append_assoc h.finished (b ∷ []) (drop (i + 1) text));
        count = let z = h.count in omega arith;
        past = λ f. let z = h.count in absurd (omega arith);
        so_far = rw (escaped_append key h.finished (b ∷ []), escaped_one key b) (stored_then h.so_far s);
        rest = let z = h.rest in omega arith;
        long = stored_long s ∙ h.long;
      }

pub ruleset laws = (escape_first, escape_within, escape_room, escape_stop, escape_done, escape_next, rules)

-- ---- for those who write a text piece by piece: it fits, and where there is room for one form it goes on
module _ {key : Bool} {text : List ℕ} {from : ℕ} {before after : List ℕ} {next used : ℕ} (h : Pieced key text from before after next used) where
  pub piece_fits : used ≤ length before
  piece_fits = let z = h.stored.ends in let y = h.stored.room in omega arith

  pub piece_long : length after ≡ length before
  piece_long = stored_long h.stored

  pub piece_goes_on : from < length text → 4 ≤ length before → from < next
  unfolding fitting
  piece_goes_on l room =
      let b = get_or text from 0 in
      let short : length (form key b) ≤ 4 = at_most_four (special key b) refl in
      let some : fitting key (drop from text) (length before) ≡ suc (fitting key (drop (suc from) text) (length before - length (form key b))) = rw (drop-cons text from 0 l, le-leb (length (form key b)) (length before) (omega arith)) in
      let z = h.goes_on in
      omega arith
    where
      at_most_four : (t : Bool) → special key (get_or text from 0) ≡ t → length (form key (get_or text from 0)) ≤ 4
      at_most_four true e = let z = ap length (form_special key (get_or text from 0) e) in omega arith
      at_most_four false e = let z = ap length (form_plain key (get_or text from 0) e) in omega arith

pub ruleset piece_laws = (piece_fits, piece_long, piece_goes_on)
