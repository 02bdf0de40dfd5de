-- What the functions' proofs cite, and what later crates know of a header: its tables and its data section lie within the file.
-- Assumes nothing.
use Prim.Native.Nat.{ℕ, ◌+◌, ◌*◌, ◌%◌, ◌^◌, ◌≤◌, ◌<◌}
use mathlib.Core.Path.{◌≡◌, refl, ap, sym, ◌∙◌}
use mathlib.Core.Bool.{Bool, true, false, ◌&&◌}
use mathlib.Core.List.{List}
use lib.ListN.{length, get_or, take}
use lib.Seq.{take_all}
use lib.Dec.{leb, eqb}
use borrow.Author.Rules.{rules}
use borrow.Author.Tests.{lt-ltb, le-ltb, le-leb, lt-leb, eq-eqb, ne_eqb}
use native.Mathlib.Omega.{arith}
use native.Mathlib.Nat.{mul-le-mul_left, mul-le-mul_right, le_trans}
use mir.Syntax.{w32, w64}
use mir.Val.{Fits}
use Rattle.refusal.specs.Refusals.{wrong_magic}
use Rattle.refusal.specs.declared.Refusal.{Refusal}
use Rattle.refusal.specs.Outcome.{Outcome, refused, ◌>>=◌}
use Rattle.refusal.proofs.Laws.{tests, calls, passes, fails}
use Rattle.word.specs.Words.{u32_at}
use Rattle.word.specs.declared.Endian.{Endian}
use Rattle.header.specs.declared.Table.{Table}
use Rattle.header.specs.declared.Header.{Header}
use Rattle.header.specs.declared.Shape.{Shape}
use Rattle.header.specs.declared.Three.{Three}
use Rattle.header.specs.declared.Section.{Section}
use Rattle.header.specs.Header.{four_of, four, version_at, table_allowed, table_of, table_at, section_of, section_at, joined, tables_at, body_of, body_at, order_at, versioned_at, up_to_end}

-- ---- four bytes: x is read for g, and t is what is asked next
pub is_and : {x g y : ℕ} {t v : Bool} → x ≡ g → x ≡ y → v ≡ t → v ≡ (eqb g y && t)
is_and {x} {g} {y} r e h = rw (eq-eqb g y (sym r ∙ e)) h

pub differs_and : {x g y : ℕ} (t : Bool) {v : Bool} → x ≡ g → (x ≡ y → ⊥) → v ≡ eqb x y → v ≡ (eqb g y && t)
differs_and {x} {g} {y} t r n h = rw (ne_eqb g y λ e. n (r ∙ e)) (h ∙ ne_eqb x y n)

pub true_and : {s t v : Bool} → s ≡ true → v ≡ t → v ≡ (s && t)
true_and e h = rw e h

pub false_and : {s : Bool} (t : Bool) {v : Bool} → s ≡ false → v ≡ s → v ≡ (s && t)
false_and t e h = rw e (h ∙ e)

pub read_by : {x g : ℕ} (y : ℕ) {v : Bool} → x ≡ g → v ≡ eqb x y → v ≡ eqb g y
read_by y r h = h ∙ ap (λ (n : ℕ). eqb n y) r

regroup : (a b c d : Bool) → (((a && b) && c) && d) ≡ (a && (b && (c && d)))
regroup true true c d = refl
regroup true false c d = refl
regroup false b c d = refl

pub four_by : (f : List ℕ) (p a b c d : ℕ) {r u v : Bool} → r ≡ (eqb (get_or f p 0) a && eqb (get_or f (p + 1) 0) b) → u ≡ (r && eqb (get_or f (p + 2) 0) c)
    → v ≡ (u && eqb (get_or f (p + 3) 0) d) → v ≡ four f p a b c d
unfolding four four_of
four_by f p a b c d r u v =
    v ∙ ap (λ (t : Bool). t && eqb (get_or f (p + 3) 0) d) (u ∙ ap (λ (t : Bool). t && eqb (get_or f (p + 2) 0) c) r)
    ∙ regroup (eqb (get_or f p 0) a) (eqb (get_or f (p + 1) 0) b) (eqb (get_or f (p + 2) 0) c) (eqb (get_or f (p + 3) 0) d)

-- ---- tables
module _ (len : ℕ) (shape : Shape) (count offset : ℕ) where
  pub none_there : count ≡ 0 → eqb offset 0 ≡ table_allowed len shape count offset
  unfolding table_allowed
  none_there e = rw (eq-eqb count 0 e)

  module _ (some : count ≡ 0 → ⊥) where
    pub table_low : offset < 112 → false ≡ table_allowed len shape count offset
    unfolding table_allowed
    table_low h = rw (ne_eqb count 0 some, lt-leb 112 offset h)

    pub table_uneven : 112 ≤ offset → (offset % 4 ≡ 0 → ⊥) → false ≡ table_allowed len shape count offset
    unfolding table_allowed
    table_uneven p h = rw (ne_eqb count 0 some, le-leb 112 offset p, ne_eqb (offset % 4) 0 h)

    pub table_long : 112 ≤ offset → offset % 4 ≡ 0 → len < offset + shape.width * count → false ≡ table_allowed len shape count offset
    unfolding table_allowed
    table_long p q h = rw (ne_eqb count 0 some, le-leb 112 offset p, eq-eqb (offset % 4) 0 q, lt-leb (offset + shape.width * count) len h)

    pub table_few : 112 ≤ offset → offset % 4 ≡ 0 → offset + shape.width * count ≤ len → leb count shape.most ≡ table_allowed len shape count offset
    unfolding table_allowed
    table_few p q h = rw (ne_eqb count 0 some, le-leb 112 offset p, eq-eqb (offset % 4) 0 q, le-leb (offset + shape.width * count) len h)

-- a product of two 32-bit numbers, and a 32-bit number more
product : (a b : ℕ) → a < 2 ^ 32 → b < 2 ^ 32 → a * b ≤ 4294967295 * 4294967295
product a b p q = le_trans (mul-le-mul_left a (let z : b ≤ 4294967295 = omega arith in z)) (mul-le-mul_right 4294967295 (let z : a ≤ 4294967295 = omega arith in z))

pub product_fits : (a b : ℕ) → Fits w32 a → Fits w32 b → Fits w64 (a * b)
product_fits a b p q = omega (arith, product a b p.fits q.fits)

pub end_fits : (a b c : ℕ) → Fits w32 a → Fits w32 b → Fits w32 c → Fits w64 (c + a * b)
end_fits a b c p q r = omega (arith, product a b p.fits q.fits)

-- ---- a reading from the values that were read
module _ (f : List ℕ) (o : Endian) where
  pub table_by : (shape : Shape) (p : ℕ) {c d : ℕ} {y : Outcome Table} → c ≡ u32_at o f p → d ≡ u32_at o f (p + 4) → y ≡ table_of (length f) shape c d → y ≡ table_at f o shape p
  unfolding table_at
  table_by shape p e g h = rw (← e, ← g) h

  pub section_by : {start size : ℕ} {y : Outcome Section} → start ≡ u32_at o f 108 → size ≡ u32_at o f 104 → y ≡ section_of (length f) start size → y ≡ section_at f o
  unfolding section_at
  section_by e g h = rw (← e, ← g) h

  pub joined_by : (version : ℕ) (t u : Three) (d : Section) {sum map : ℕ} → sum ≡ u32_at o f 8 → map ≡ u32_at o f 52
      → record { version = version; order = o; checksum = sum; map = map; strings = t.first; types = t.second; protos = t.third; fields = u.first; methods = u.second; classes = u.third; start = d.start; end = d.end } ≡ joined f version o t u d
  joined_by version t u d e g = λ i. record { version = version; order = o; checksum = e i; map = g i; strings = t.first; types = t.second; protos = t.third; fields = u.first; methods = u.second; classes = u.third; start = d.start; end = d.end }

  pub body_by : (version : ℕ) {size file : ℕ} {y : Outcome Header} → size ≡ u32_at o f 36 → file ≡ u32_at o f 32 → y ≡ body_of (length f) size file (tables_at f version o) → y ≡ body_at f version o
  unfolding body_at
  body_by version e g h = rw (← e, ← g) h

module _ (f : List ℕ) {v : ℕ} (e : v ≡ version_at f) where
  pub version_known : {y : Outcome Header} → 0 < v → y ≡ (order_at f >>= body_at f v) → y ≡ versioned_at f
  unfolding versioned_at
  version_known p h = rw (← e) (passes wrong_magic (lt-ltb 0 v p) h)

  pub version_unknown : {r : Refusal} → v ≤ 0 → r ≡ wrong_magic → refused r ≡ versioned_at f
  unfolding versioned_at
  version_unknown p made = rw (← e) (fails _ made (le-ltb 0 v p))

-- ---- the section of a file
pub section_short : (f : List ℕ) (h : Header) → length f < h.end → f ≡ up_to_end f h
unfolding up_to_end
section_short f h p = sym (take_all h.end f (omega arith))

pub section_whole : (f : List ℕ) (h : Header) → take h.end f ≡ up_to_end f h
unfolding up_to_end
section_whole f h = refl

pub ruleset four_laws = (calls, rules)

pub ruleset table_laws = (none_there, table_low, table_uneven, table_long, table_few, product_fits, end_fits, table_by, calls, tests, rules)

pub ruleset own_laws = (section_by, joined_by, body_by, version_known, version_unknown, calls, tests, rules)

pub ruleset section_laws = (section_short, section_whole, rules)
