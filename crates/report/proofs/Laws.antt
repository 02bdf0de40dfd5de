-- What the functions' proofs cite: bytes stored one after the other, the digits' steps, lines, and the two ways of the writer.
-- Assumes nothing.
use Prim.Native.Nat.{ℕ, ◌+◌, ◌-◌, ◌/◌, ◌%◌, ◌≤◌, ◌<◌}
use mathlib.Core.Path.{◌≡◌, refl, ap, sym, ◌∙◌}
use mathlib.Core.Bool.{Bool, true, false}
use mathlib.Core.List.{List, [], ◌∷◌, ◌++◌, append_assoc, append-nil}
use lib.ListN.{length, take, drop, set, length-append, length-take, length-drop, take-append-drop}
use lib.Seq.{take_at, drop_at, drop-drop, set_split}
use borrow.Author.Rules.{rules}
use lib.Dec.{leb}
use borrow.Author.Tests.{le-leb, lt-leb, leb-true, leb-false}
use native.Mathlib.Numerals.{add-one}
use native.Mathlib.Omega.{arith}
use mir.Syntax.{w64}
use mir.Val.{Fits}
use Rattle.refusal.specs.Refusals.{no_room}
use Rattle.refusal.specs.Outcome.{Outcome, answer, refused, given}
use Rattle.refusal.proofs.Laws.{passes, fails}
use Rattle.word.specs.declared.Endian.{Endian}
use Rattle.word.specs.declared.Endian.TheVariants.{Little, Big}
use Rattle.refusal.specs.declared.Refusal.{Refusal}
use Rattle.report.specs.Decimal.{decimal}
use Rattle.report.specs.Lines.{Line, told, lines, counted, order_line}
use Rattle.report.specs.Stored.{placed, Stored, written, content}
use Rattle.report.specs.Rows.{Named, ThreeNamed, Rows}
use Rattle.report.proofs.Decimals.{decimal_small, decimal_large, digits_of_64}

-- ---- stored, one text after the other
length_placed : (a : List ℕ) (p : ℕ) (out : List ℕ) → p + length a ≤ length out → length (placed a p out) ≡ length out
unfolding placed
length_placed a p out h = simp (length-append, length-take, length-drop) (omega arith)

front : (a : List ℕ) (p : ℕ) (out : List ℕ) → p + length a ≤ length out → length (take p out ++ a) ≡ p + length a
front a p out h = simp (length-append, length-take) (omega arith)

placed_twice : (a b : List ℕ) (p : ℕ) (out : List ℕ) → p + length a ≤ length out → placed b (p + length a) (placed a p out) ≡ placed (a ++ b) p out
unfolding placed
placed_twice a b p out h =
    let whole = sym (append_assoc (take p out) a (drop (p + length a) out)) in
    let long = front a p out h in
    let same : p + length a + length b ≡ p + (length a + length b) = omega arith in
    ap (λ (l : List ℕ). take (p + length a) l ++ (b ++ drop (p + length a + length b) l)) whole
    ∙ ap (λ (l : List ℕ). l ++ (b ++ drop (p + length a + length b) ((take p out ++ a) ++ drop (p + length a) out))) (take_at (take p out ++ a) (drop (p + length a) out) (p + length a) long)
    ∙ ap (λ (l : List ℕ). (take p out ++ a) ++ (b ++ l)) (sym (drop-drop (length b) (p + length a) ((take p out ++ a) ++ drop (p + length a) out)) ∙ ap (λ (l : List ℕ). drop (length b) l) (drop_at (take p out ++ a) (drop (p + length a) out) (p + length a) long) ∙ drop-drop (length b) (p + length a) out)
    ∙ simp (append_assoc, length-append) (ap (λ (n : ℕ). take p out ++ (a ++ (b ++ drop n out))) same)

pub stored_long : {a : List ℕ} {p q : ℕ} {before after : List ℕ} → Stored a p before after q → length after ≡ length before
stored_long {a} {p} {q} {before} s = ap length s.content ∙ length_placed a p before s.room

pub stored_then : {a b : List ℕ} {p q r : ℕ} {o₀ o₁ o₂ : List ℕ} → Stored a p o₀ o₁ q → Stored b q o₁ o₂ r → Stored (a ++ b) p o₀ o₂ r
stored_then {a} {b} {p} {q} {r} {o₀} {o₁} s t =
    let z = s.ends in
    let y = t.ends in
    let x = t.room in
    let w = stored_long s in
    let v = length-append a b in
    record {
      room = omega arith;
      content = t.content ∙ ap (λ (k : ℕ). placed b k o₁) s.ends ∙ ap (λ (l : List ℕ). placed b (p + length a) l) s.content ∙ placed_twice a b p o₀ s.room;
      ends = omega arith;
    }

-- one byte
byte_placed : (b p : ℕ) (out : List ℕ) → p < length out → set out p b ≡ placed (b ∷ []) p out
unfolding placed
byte_placed b p out h = set_split out p b h ∙ ap (λ (k : ℕ). take p out ++ (b ∷ drop k out)) (sym (add-one p))

pub stored_byte : (b p : ℕ) (out : List ℕ) → p < length out → Stored (b ∷ []) p out (set out p b) (p + 1)
stored_byte b p out h = record { room = omega arith; content = byte_placed b p out h; ends = refl }

-- no bytes
pub stored_nothing : (p : ℕ) (out : List ℕ) → p ≤ length out → Stored [] p out out p
unfolding placed
stored_nothing p out h = let none : p + 0 ≡ p = omega arith in record { room = omega arith; content = sym (ap (λ (k : ℕ). take p out ++ drop k out) none ∙ take-append-drop p out); ends = omega arith }

-- ---- a text, put from a place on
module _ (text : List ℕ) (at : ℕ) (out : List ℕ) (h : at + length text ≤ length out) where
  pub put_stored : Stored text at out (take at out ++ (text ++ drop (at + length text - at) (drop at out))) (at + length text)
  unfolding placed
  put_stored = record {
    room = h;
    content = let same : at + length text - at ≡ length text = omega arith in ap (λ (k : ℕ). take at out ++ (text ++ drop k (drop at out))) same ∙ ap (λ (l : List ℕ). take at out ++ (text ++ l)) (drop-drop (length text) at out);
    ends = refl;
  }

pub ruleset put_laws = (put_stored, rules)

-- ---- the digits
module _ (n at : ℕ) (out : List ℕ) (h : at + length (decimal n) ≤ length out) where
  pub digit_room : n < 10 → at < length out
  digit_room s = let z = ap length (decimal_small n s) in omega arith

  pub tenth_room : 10 ≤ n → at + length (decimal (n / 10)) ≤ length out
  tenth_room l = let z = ap length (decimal_large n l) in let y = length-append (decimal (n / 10)) ((48 + n % 10) ∷ []) in omega arith

  pub last_room : {o : List ℕ} {p : ℕ} → 10 ≤ n → Stored (decimal (n / 10)) at out o p → p < length o
  last_room l s =
      let z = ap length (decimal_large n l) in
      let y = length-append (decimal (n / 10)) ((48 + n % 10) ∷ []) in
      let x = s.ends in
      let w = stored_long s in
      omega arith

module _ {n at next : ℕ} {out after : List ℕ} where
  pub digit_stored : n < 10 → Stored ((48 + n) ∷ []) at out after next → Stored (decimal n) at out after next
  digit_stored l s = rw (decimal_small n l) s

  pub digits_stored : {o : List ℕ} {p : ℕ} → 10 ≤ n → Stored (decimal (n / 10)) at out o p → Stored ((48 + n % 10) ∷ []) p o after next → Stored (decimal n) at out after next
  digits_stored l s t = rw (decimal_large n l) (stored_then s t)

pub ruleset digit_laws = (digit_room, tenth_room, last_room, digit_stored, digits_stored, rules)

-- ---- a line: at most 8 bytes of name, the sign, at most 20 bytes of value, the line feed
module _ {name : List ℕ} {at : ℕ} {out₀ : List ℕ} (h : Named name at out₀) where
  pub name_room : at + length name ≤ length out₀
  name_room = let z = h.few in let y = h.room in omega arith

  pub sign_room : {out₁ : List ℕ} {p : ℕ} → Stored name at out₀ out₁ p → p < length out₁
  sign_room s = let z = h.few in let y = h.room in let x = s.ends in let w = stored_long s in omega arith

  module _ {out₁ : List ℕ} {p : ℕ} (s : Stored (name ++ (61 ∷ [])) at out₀ out₁ p) where
    opened : p ≤ at + 9
    opened = let z = h.few in let y = s.ends in let x = length-append name (61 ∷ []) in omega arith

    value_room : (value : List ℕ) → length value ≤ 20 → p + length value ≤ length out₁
    value_room value l = let z = opened in let y = h.room in let x = stored_long s in omega arith

    pub word_room : (word : List ℕ) → length word ≤ 20 → p + length word ≤ length out₁
    word_room = value_room

    pub digits_room : (n : ℕ) → Fits w64 n → p + length (decimal n) ≤ length out₁
    digits_room n f = value_room (decimal n) (digits_of_64 n f.fits)

    module _ {value out₂ : List ℕ} {q : ℕ} (t : Stored value p out₁ out₂ q) where
      feed_room : length value ≤ 20 → q < length out₂
      feed_room l = let z = opened in let y = h.room in let x = stored_long s in let w = stored_long t in let v = t.ends in omega arith

      row : {out₃ : List ℕ} {r : ℕ} → length value ≤ 20 → Stored (10 ∷ []) q out₂ out₃ r → Rows (record { name = name; value = value } ∷ []) at out₀ out₃ r
      unfolding lines told
      row l u = record {
        stored = rw append-nil (stored_then s (stored_then t u));
        few = let z = opened in let y = t.ends in let x = u.ends in omega arith;
      }

    pub word_feed : {word out₂ : List ℕ} {q : ℕ} → length word ≤ 20 → Stored word p out₁ out₂ q → q < length out₂
    word_feed l t = feed_room t l

    pub word_row : {word out₂ out₃ : List ℕ} {q r : ℕ} → length word ≤ 20 → Stored word p out₁ out₂ q → Stored (10 ∷ []) q out₂ out₃ r → Rows (record { name = name; value = word } ∷ []) at out₀ out₃ r
    word_row l t u = row t l u

    module _ {n : ℕ} (f : Fits w64 n) {out₂ : List ℕ} {q : ℕ} (t : Stored (decimal n) p out₁ out₂ q) where
      pub digits_feed : q < length out₂
      digits_feed = feed_room t (digits_of_64 n f.fits)

      pub number_row : {out₃ : List ℕ} {r : ℕ} → Stored (10 ∷ []) q out₂ out₃ r → Rows (counted name n ∷ []) at out₀ out₃ r
      number_row u = row t (digits_of_64 n f.fits) u

pub ruleset line_laws = (stored_then, name_room, sign_room, word_room, word_feed, word_row, digits_room, digits_feed, number_row, rules)

-- ---- lines one after the other
lines_append : (xs ys : List Line) → lines (xs ++ ys) ≡ lines xs ++ lines ys
unfolding lines
lines_append [] ys = refl
lines_append (x ∷ xs) ys = ap (λ (l : List ℕ). told x ++ l) (lines_append xs ys) ∙ sym (append_assoc (told x) (lines xs) (lines ys))

rows_then : {xs ys : List Line} {p q r : ℕ} {o₀ o₁ o₂ : List ℕ} → Rows xs p o₀ o₁ q → Rows ys q o₁ o₂ r → Rows (xs ++ ys) p o₀ o₂ r
rows_then {xs} {ys} s t = record {
  stored = rw (lines_append xs ys) (stored_then s.stored t.stored);
  few = let z = s.few in let y = t.few in let x = length-append xs ys in omega arith;
}

-- three lines
module _ {x y z : List ℕ} {at : ℕ} {out₀ : List ℕ} (h : ThreeNamed x y z at out₀) where
  pub first_named : Named x at out₀
  first_named = record { few = h.first; room = let r = h.room in omega arith }

  module _ {a : Line} {out₁ : List ℕ} {p : ℕ} (s : Rows (a ∷ []) at out₀ out₁ p) where
    pub second_named : Named y p out₁
    second_named = record { few = h.second; room = let r = h.room in let f = s.few in let e = stored_long s.stored in omega arith }

    pub third_named : {b : Line} {out₂ : List ℕ} {q : ℕ} → Rows (b ∷ []) p out₁ out₂ q → Named z q out₂
    third_named t = record { few = h.third; room = let r = h.room in let f = s.few in let e = stored_long s.stored in let g = t.few in let d = stored_long t.stored in omega arith }

pub three_rows : {a b c : Line} {at p q r : ℕ} {out₀ out₁ out₂ out₃ : List ℕ} → Rows (a ∷ []) at out₀ out₁ p → Rows (b ∷ []) p out₁ out₂ q → Rows (c ∷ []) q out₂ out₃ r → Rows (a ∷ b ∷ c ∷ []) at out₀ out₃ r
three_rows s t u = rows_then s (rows_then t u)

pub ruleset three_laws = (first_named, second_named, third_named, three_rows, rules)

-- the line of the byte order
module _ (order : Endian) {at r : ℕ} {out₀ out : List ℕ} where
  pub little_row : order ≡ Little → Rows (order_line Little ∷ []) at out₀ out r → Rows (order_line order ∷ []) at out₀ out r
  little_row e s = rw e s

  pub big_row : order ≡ Big → Rows (order_line Big ∷ []) at out₀ out r → Rows (order_line order ∷ []) at out₀ out r
  big_row e s = rw e s

pub ruleset order_laws = (little_row, big_row, rules)

-- the top of an accepted file
module _ {a : Line} {out₀ out₁ : List ℕ} {p : ℕ} (s : Rows (a ∷ []) 0 out₀ out₁ p) where
  pub top_second : 288 ≤ length out₀ → p + 32 ≤ length out₁
  top_second h = let f = s.few in let e = stored_long s.stored in omega arith

  pub top_third : {b : Line} {out₂ : List ℕ} {q : ℕ} → 288 ≤ length out₀ → Rows (b ∷ []) p out₁ out₂ q → q + 32 ≤ length out₂
  top_third h t = let f = s.few in let e = stored_long s.stored in let g = t.few in let d = stored_long t.stored in omega arith

-- all of it
module _ {a b c : Line} {out₀ out₁ : List ℕ} {p : ℕ} (s : Rows (a ∷ b ∷ c ∷ []) 0 out₀ out₁ p) where
  pub middle_room : 288 ≤ length out₀ → p + 96 ≤ length out₁
  middle_room h = let f = s.few in let e = stored_long s.stored in omega arith

  module _ {d e f : Line} {out₂ : List ℕ} {q : ℕ} (t : Rows (d ∷ e ∷ f ∷ []) p out₁ out₂ q) where
    pub bottom_room : 288 ≤ length out₀ → q + 96 ≤ length out₂
    bottom_room h = let f = s.few in let e = stored_long s.stored in let g = t.few in let d = stored_long t.stored in omega arith

    pub nine_rows : {g h i : Line} {out₃ : List ℕ} {r : ℕ} → Rows (g ∷ h ∷ i ∷ []) q out₂ out₃ r → Rows (a ∷ b ∷ c ∷ d ∷ e ∷ f ∷ g ∷ h ∷ i ∷ []) 0 out₀ out₃ r
    nine_rows u = rows_then s (rows_then t u)

pub ruleset top_laws = (top_second, top_third, three_rows, rules)

pub ruleset accepted_laws = (middle_room, bottom_room, nine_rows, rules)

-- ---- the writer's two ways
module _ (text out : List ℕ) where
  pub short_answer : {r : Refusal} → length out < length text → r ≡ no_room → refused r ≡ written text (length out)
  unfolding written
  short_answer h made = fails _ made (lt-leb (length text) (length out) h)

  pub short_content : length out < length text → out ≡ content text out
  unfolding content
  short_content h = rw (lt-leb (length text) (length out) h)

  pub whole_room : length text ≤ length out → 0 + length text ≤ length out
  whole_room h = omega arith

module _ {text out after : List ℕ} {n : ℕ} (s : Stored text 0 out after n) where
  pub whole_answer : answer (length text) ≡ written text (length out)
  unfolding written
  whole_answer = passes no_room (le-leb (length text) (length out) (let z = s.room in omega arith)) refl

  at_front : placed text 0 out ≡ text ++ drop (length text) out
  unfolding placed
  at_front = let none : 0 + length text ≡ length text = omega arith in ap (λ (k : ℕ). text ++ drop k out) none

  pub whole_content : after ≡ content text out
  unfolding content
  whole_content = rw (le-leb (length text) (length out) (let z = s.room in omega arith)) (s.content ∙ at_front)

  -- what was stored, cut out again
  stored_cut : take (n - 0) (drop 0 after) ≡ text
  stored_cut =
      let long : length text ≡ n - 0 = let z = s.ends in omega arith in
      ap (λ (l : List ℕ). take (n - 0) l) (s.content ∙ at_front) ∙ take_at text (drop (length text) out) (n - 0) long

-- digits that were made in a room of their own, and handed out
pub digits_fit : (n : ℕ) (room : List ℕ) → Fits w64 n → 20 ≤ length room → 0 + length (decimal n) ≤ length room
digits_fit n room f h = let z = digits_of_64 n f.fits in omega arith

module _ {text room made : List ℕ} {n : ℕ} (s : Stored text 0 room made n) where
  pub made_end : n ≤ length made
  made_end = let z = s.ends in let y = s.room in let x = stored_long s in omega arith

  pub made_answer : {said : Outcome ℕ} (k : ℕ) → said ≡ written (take (n - 0) (drop 0 made)) k → said ≡ written text k
  made_answer k e = e ∙ ap (λ (t : List ℕ). written t k) (stored_cut s)

  pub made_content : {after : List ℕ} (out : List ℕ) → after ≡ content (take (n - 0) (drop 0 made)) out → after ≡ content text out
  made_content out e = e ∙ ap (λ (t : List ℕ). content t out) (stored_cut s)

pub ruleset number_laws = (digits_fit, made_end, made_answer, made_content, rules)

-- a report that was made in a room of its own, and handed out
module _ {ls : List Line} {room made : List ℕ} {n : ℕ} (s : Rows ls 0 room made n) where
  pub report_answer : {said : Outcome ℕ} (k : ℕ) → said ≡ written (take (n - 0) (drop 0 made)) k → said ≡ written (lines ls) k
  report_answer k e = e ∙ ap (λ (t : List ℕ). written t k) (stored_cut s.stored)

  pub report_content : {after : List ℕ} (out : List ℕ) → after ≡ content (take (n - 0) (drop 0 made)) out → after ≡ content (lines ls) out
  report_content out e = e ∙ ap (λ (t : List ℕ). content t out) (stored_cut s.stored)

pub ruleset report_laws = (report_answer, report_content, rules)

pub ruleset text_laws = (short_answer, short_content, whole_room, whole_answer, whole_content, rules)

-- a text that was written has this length and fits the output; one that was not is longer than the room
pub got_length : (text : List ℕ) (room k : ℕ) → answer k ≡ written text room → (k ≡ length text) × (length text ≤ room)
unfolding written given
got_length text room k e = by_length (leb (length text) room) refl e
  where
    by_length : (b : Bool) → leb (length text) room ≡ b → answer k ≡ given b no_room (answer (length text)) → (k ≡ length text) × (length text ≤ room)
    by_length true t q = (cc q, leb-true (length text) room t)
    by_length false t q = let z : ◌≡◌ {A = ℕ} 0 1 = cc q in absurd (omega arith)

pub refused_length : (text : List ℕ) (room : ℕ) (r : Refusal) → refused r ≡ written text room → room < length text
unfolding written given
refused_length text room r e = by_length (leb (length text) room) refl e
  where
    by_length : (b : Bool) → leb (length text) room ≡ b → refused r ≡ given b no_room (answer (length text)) → room < length text
    by_length true t q = let z : ◌≡◌ {A = ℕ} 0 1 = cc q in absurd (omega arith)
    by_length false t q = leb-false (length text) room t

pub got_within : (text : List ℕ) (k n : ℕ) → answer n ≡ written text k → n ≤ k
got_within text k n e = let z = got_length text k n e in omega (arith, z.0, z.1)

pub written_fits : (text : List ℕ) (room : ℕ) → length text ≤ room → answer (length text) ≡ written text room
unfolding written given
written_fits text room h = rw (le-leb (length text) room h)

pub content_fits : (text out : List ℕ) → length text ≤ length out → content text out ≡ text ++ drop (length text) out
unfolding content
content_fits text out h = rw (le-leb (length text) (length out) h)

pub ruleset byte_laws = (stored_byte, rules)
