-- What the functions' proofs cite: the loop of `count_at`, the stages of `string_at`, and where a text that was read lies.
-- Assumes nothing.
use Prim.Native.Nat.{ℕ, zero, suc, ◌+◌, ◌-◌, ◌<◌, ◌≤◌}
use mathlib.Core.Path.{◌≡◌, refl, ap, sym, subst, ◌∙◌}
use mathlib.Core.Bool.{Bool, true, false, ◌||◌}
use mathlib.Core.List.{List, [], ◌∷◌}
use lib.ListN.{length, get_or, length-append}
use lib.Dec.{eqb}
use borrow.Author.Rules.{rules}
use borrow.Author.Tests.{lt-ltb, le-ltb}
use native.Mathlib.Omega.{arith}
use mir.Syntax.{w8, w32}
use mir.Val.{Fits}
use Rattle.refusal.specs.Refusals.{malformed_text, runs_past}
use Rattle.refusal.specs.declared.Refusal.{Refusal}
use Rattle.refusal.specs.Outcome.{Outcome, answer, refused, ◌>>=◌, given}
use Rattle.refusal.specs.Rows.{Found, Next, more}
use Rattle.refusal.proofs.Laws.{handed_on, tests, calls, bind_answer, bind_refused, refused_by, passes, fails, picks, leaves}
use Rattle.refusal.proofs.Exact.{answer_exact, bind_exact}
use Rattle.refusal.proofs.Rows.{bind_assoc}
use Rattle.refusal.proofs.Loops.{Ending, ending_first, ending_next, ending_stop, ending_full, ending_done}
use Rattle.word.specs.Bytes.{stretch, part}
use Rattle.word.proofs.Laws.{length_stretch, stands_part}
use Rattle.leb128.specs.Leb.{uleb_at}
use Rattle.leb128.proofs.Exactly.{uleb_exact}
use Rattle.leb128.proofs.Laws.{uleb_span}
use Rattle.text.specs.Text.{wide_at, form_at, units_at, Text, string_at, Extent, extent, extent_at, counted, count_at}
use Rattle.text.specs.Singles.{Singles, none_yet, one_more, FewSingles}
use Rattle.text.proofs.Shapes.{shape, shape_some}
use Rattle.text.proofs.Exactly.{form_exact, units_exact, string_exact}

-- a byte of a slice fits a number of 32 bits
pub byte_fits : (s : List ℕ) (i : ℕ) → ((k : ℕ) → Fits w8 (get_or s k 0)) → Fits w32 (get_or s i 0)
byte_fits s i h = omega (arith, h i)

-- one of two tests
pub either_first : (s t : Bool) → s ≡ true → (s || t) ≡ true
either_first s t e = rw e

pub either_second : (s t : Bool) → t ≡ true → (s || t) ≡ true
either_second true t e = refl
either_second false t e = e

pub neither : (s t : Bool) → s ≡ false → t ≡ false → (s || t) ≡ false
neither s t e f = rw (e, f)

-- ---- the loop of `count_at` at its head: `count` units were found, and there are steps enough to reach the end
pub record Head (s : List ℕ) (item start p count : ℕ) : Type 0 where
  left : ℕ
  enough : length s ≤ p + left
  pub passed : start + count ≤ p
  ending : Ending (form_at s item) (runs_past item) (units_at s item start) (λ (l : List ℕ). length l ≡ count) left p

pub head_first : (s : List ℕ) (item start : ℕ) → Head s item start start 0
unfolding units_at
head_first s item start = record { left = length s - start; enough = omega arith; passed = omega arith; ending = ending_first (form_at s item) (runs_past item) (λ (l : List ℕ). length l ≡ 0) (length s - start) start refl }

-- a form is found, and its place moves on
form_moves : (s : List ℕ) (item p : ℕ) {u n : ℕ} → answer (more u n) ≡ form_at s item p → p < n
form_moves s item p {u} {n} e =
    let h = (form_exact s item p).sound (more u n) (sym e) in
    omega (arith, h.stands.ends, shape_some (shape u h.small))

module _ {s : List ℕ} {item start p count : ℕ} (h : Head s item start p count) where
  next : {u n : ℕ} → p < length s → answer (more u n) ≡ form_at s item p → Head s item start n (count + 1)
  next {u} {n} i e =
      let m = form_moves s item p e in
      let g = h.enough in
      let c = h.passed in
      record {
        left = h.left - 1;
        enough = omega arith;
        passed = omega arith;
        ending = ending_next h.ending (λ (l : List ℕ). length l ≡ count + 1) (omega arith) e (λ l k. omega (arith, length-append l (u ∷ [])));
      }

  stop : {r : Refusal} → p < length s → refused r ≡ form_at s item p → refused r ≡ count_at s item start
  unfolding count_at
  stop i e = let g = h.enough in sym (bind_refused counted (sym (ending_stop h.ending (omega arith) e)))

  pub head_one : p < length s → get_or s p 0 < 0x80 → 0 < get_or s p 0 → Head s item start (p + 1) (count + 1)
  unfolding form_at
  head_one i q r = next i (passes (runs_past item) (lt-ltb p (length s) i) (picks _ (lt-ltb (get_or s p 0) 0x80 q) (picks _ (lt-ltb 0 (get_or s p 0) r) refl)))

  wide : {y : Outcome (Next ℕ ℕ)} → p < length s → 0x80 ≤ get_or s p 0 → y ≡ wide_at s item p → y ≡ form_at s item p
  unfolding form_at
  wide i q e = passes (runs_past item) (lt-ltb p (length s) i) (leaves _ (le-ltb (get_or s p 0) 0x80 q) e)

  pub head_wide : {u n : ℕ} → p < length s → 0x80 ≤ get_or s p 0 → answer (more u n) ≡ wide_at s item p → Head s item start n (count + 1)
  head_wide i q e = next i (wide i q e)

  pub head_less : {u n : ℕ} → p < length s → 0x80 ≤ get_or s p 0 → answer (more u n) ≡ wide_at s item p → length s - n < length s - p
  head_less i q e = let m = form_moves s item p (wide i q e) in omega arith

  pub head_stop : {r : Refusal} → p < length s → 0x80 ≤ get_or s p 0 → refused r ≡ wide_at s item p → refused r ≡ count_at s item start
  head_stop i q e = stop i (wide i q e)

  pub head_done : p < length s → get_or s p 0 < 0x80 → get_or s p 0 ≤ 0 → answer (record { item = count; next = p }) ≡ count_at s item start
  unfolding count_at form_at
  head_done i q r =
      let g = h.enough in
      let d = ending_done h.ending (omega arith) (passes (runs_past item) (lt-ltb p (length s) i) (picks _ (lt-ltb (get_or s p 0) 0x80 q) (leaves _ (le-ltb 0 (get_or s p 0) r) refl))) in
      sym (bind_answer counted (sym d.1.1) ∙ (λ i. answer (record { item = d.1.0 i; next = p })))

  pub head_end : {r : Refusal} → length s ≤ p → r ≡ runs_past item → refused r ≡ count_at s item start
  unfolding count_at form_at
  head_end i made = refused_by made ∙ go h.left h.ending
    where
      go : (n : ℕ) → Ending (form_at s item) (runs_past item) (units_at s item start) (λ (l : List ℕ). length l ≡ count) n p → refused (runs_past item) ≡ count_at s item start
      go zero e = sym (bind_refused counted (sym (ending_full e (omega arith))))
      go (suc n) e = sym (bind_refused counted (sym (ending_stop e (omega arith) (fails _ refl (le-ltb p (length s) i)))))

-- ---- forms of one byte, eight at most in one turn
module _ {s : List ℕ} {p : ℕ} where
  pub singles_none : p < length s → FewSingles s p 0
  singles_none i = record { few = omega arith; inside = omega arith; ahead = λ l. omega arith; singles = none_yet }

  pub singles_more : {n : ℕ} → 8 ≤ length s - p → n < 8 → FewSingles s p n → get_or s (p + n) 0 < 0x80 → 0 < get_or s (p + n) 0 → FewSingles s p (n + 1)
  singles_more i l h low high = record { few = omega arith; inside = omega arith; ahead = λ m. omega arith; singles = one_more h.singles high low }

  pub singles_all : {n : ℕ} → 8 ≤ n → FewSingles s p n → FewSingles s p 8
  singles_all {n} l h = let z = h.few in let eight : n ≡ 8 = omega arith in subst (FewSingles s p) eight h

  -- what the loop asks of them
  pub few_inside : {n : ℕ} → FewSingles s p n → n < 8 → p + n < length s
  few_inside h l = h.ahead l

-- a place and a count that are written in another way
same_head : {s : List ℕ} {item start p q count many : ℕ} → p ≡ q → count ≡ many → Head s item start p count → Head s item start q many
same_head {s} {item} {start} {p} {q} {count} {many} e g h = subst (λ (x : ℕ). Head s item start x many) e (subst (λ (x : ℕ). Head s item start p x) g h)

past_singles : {s : List ℕ} {item start p count n : ℕ} → Head s item start p count → Singles s p n → p + n ≤ length s → Head s item start (p + n) (count + n)
past_singles h none_yet i = same_head (omega arith) (omega arith) h
past_singles h (one_more r high low) i = same_head (omega arith) (omega arith) (head_one (past_singles h r (omega arith)) (omega arith) low high)

pub head_few : {s : List ℕ} {item start p count n : ℕ} → Head s item start p count → FewSingles s p n → Head s item start (p + n) (count + n)
head_few h r = past_singles h r.singles r.inside

-- the form behind them
module _ {s : List ℕ} {item start p count n : ℕ} (h : Head s item start p count) (r : FewSingles s p n) (l : n < 8) (q : 0x80 ≤ get_or s (p + n) 0) where
  pub few_stop : {z : Refusal} → refused z ≡ wide_at s item (p + n) → refused z ≡ count_at s item start
  few_stop e = head_stop (head_few h r) (r.ahead l) q e

  pub few_less : {u next : ℕ} → answer (more u next) ≡ wide_at s item (p + n) → length s - next < length s - p
  few_less e = let z = head_less (head_few h r) (r.ahead l) q e in omega arith

-- ---- the stages of `string_at`
unfoldable pub staged_at : List ℕ → ℕ → Outcome Extent
staged_at s item = do
  n ← uleb_at s item item
  c ← count_at s item n.next
  given (eqb c.item n.item) (malformed_text item) (answer (record { start = n.next; length = c.next - n.next; units = c.item }))

module _ (s : List ℕ) (item : ℕ) where
  abbrev compared_with : Found ℕ ℕ → Found ℕ ℕ → Outcome Extent
  compared_with n c = given (eqb c.item n.item) (malformed_text item) (answer (record { start = n.next; length = c.next - n.next; units = c.item }))

  abbrev text_with : Found ℕ ℕ → Found (List ℕ) ℕ → Outcome Text
  text_with n u = given (eqb (length u.item) n.item) (malformed_text item) (answer (record { start = n.next; bytes = stretch s n.next (u.next - n.next); units = u.item }))

  -- of a text that is compared, its extent is left
  extent_with : (n : Found ℕ ℕ) (u : Found (List ℕ) ℕ) → (text_with n u >>= extent) ≡ (counted u >>= compared_with n)
  unfolding given ◌>>=◌ extent
  extent_with n u = go (eqb (length u.item) n.item)
    where
      go : (t : Bool) → (given t (malformed_text item) (answer (record { start = n.next; bytes = stretch s n.next (u.next - n.next); units = u.item })) >>= extent)
          ≡ given t (malformed_text item) (answer (record { start = n.next; length = u.next - n.next; units = length u.item }))
      go true = λ i. answer (record { start = n.next; length = length_stretch s n.next (u.next - n.next) i; units = length u.item })
      go false = refl

  units_with : (n : Found ℕ ℕ) → (units_at s item n.next >>= text_with n >>= extent) ≡ (count_at s item n.next >>= compared_with n)
  unfolding count_at
  units_with n =
      bind_assoc (units_at s item n.next) (text_with n) extent
      ∙ (λ i. units_at s item n.next >>= λ (u : Found (List ℕ) ℕ). extent_with n u i)
      ∙ sym (bind_assoc (units_at s item n.next) counted (compared_with n))

  pub by_stages : {y : Outcome Extent} → y ≡ staged_at s item → y ≡ extent_at s item
  unfolding extent_at string_at staged_at
  by_stages e =
      e ∙ sym (bind_assoc (uleb_at s item item) (λ (n : Found ℕ ℕ). units_at s item n.next >>= text_with n) extent ∙ (λ i. uleb_at s item item >>= λ (n : Found ℕ ℕ). units_with n i))

pub count_after : (s : List ℕ) (item p : ℕ) {k z : ℕ} → answer (record { item = k; next = z }) ≡ count_at s item p → p ≤ z
unfolding count_at
count_after s item p {k} {z} e =
    let rule = bind_exact _ (λ (u : Found (List ℕ) ℕ) (c : Found ℕ ℕ). record { item = length u.item; next = u.next } ≡ c) (units_exact s item p) (λ u. answer_exact _) in
    let found = rule.sound (record { item = k; next = z }) (sym e) in
    let last = ap (λ (c : Found ℕ ℕ). c.next) found.1.1 in
    let e = found.1.0.stands.ends in
    omega arith

-- ---- where a text that was read lies: after its item, and with its zero byte inside the slice
pub record Lies (s : List ℕ) (item start size units : ℕ) : Type 0 where
  pub text : Text
  pub read : string_at s item ≡ answer text
  pub start_is : text.start ≡ start
  pub bytes_are : text.bytes ≡ part s start size
  pub size_is : length text.bytes ≡ size
  pub units_are : length text.units ≡ units
  pub after_item : item < start
  pub inside : start + size < length s

pub text_lies : (s : List ℕ) (item : ℕ) {p n u : ℕ} → answer (record { start = p; length = n; units = u }) ≡ extent_at s item → Lies s item p n u
unfolding extent_at extent
text_lies s item {p} {n} {u} e =
    let rule = bind_exact _ (λ (t : Text) (e : Extent). record { start = t.start; length = length t.bytes; units = length t.units } ≡ e) (string_exact s item) (λ t. answer_exact _) in
    let found = rule.sound (record { start = p; length = n; units = u }) (sym e) in
    let string = found.1.0 in
    let start = ap (λ (e : Extent). e.start) found.1.1 in
    let size = ap (λ (e : Extent). e.length) found.1.1 in
    let number = uleb_span s item item ((uleb_exact s item item).complete _ string.number) in
    let last = string.stands.ends in
    let room = string.room in
    record {
      text = found.0;
      read = (string_exact s item).complete found.0 string;
      start_is = start;
      bytes_are = sym (stands_part string.stands) ∙ (λ i. part s (start i) (size i));
      size_is = size;
      units_are = ap (λ (e : Extent). e.units) found.1.1;
      after_item = let h = number.after_place in omega arith;
      inside = omega arith;
    }

-- what this crate's functions are searched with
pub ruleset form_laws = (either_first, either_second, neither, tests, rules)

pub ruleset singles_laws = (singles_none, singles_more, singles_all, rules)

pub ruleset count_laws = (handed_on, head_few, few_inside, few_stop, few_less, head_first, head_one, head_wide, head_done, head_end, rules)

pub ruleset string_laws = (by_stages, count_after, calls, tests, rules)
