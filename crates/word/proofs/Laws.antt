-- Laws of bytes and words: parts of a slice, the ranges of words, and that the two byte orders are each other's reverse.
-- Assumes nothing.
use Prim.Native.Nat.{ℕ, zero, suc, ◌+◌, ◌-◌, ◌*◌, ◌<◌, ◌≤◌, ◌^◌}
use mathlib.Core.Path.{◌≡◌, refl, ap, sym, ◌∙◌}
use mathlib.Core.Bool.{Bool, true, false}
use mathlib.Core.List.{List, [], ◌∷◌}
use lib.ListN.{length, get_or, take, drop, get_or-eq_default}
use lib.Seq.{drop-cons}
use borrow.Author.Rules.{rules}
use lib.Dec.{leb}
use borrow.Author.Tests.{le-leb, lt-leb, leb-true, leb-false}
use native.Mathlib.Numerals.{add-one}
use native.Mathlib.Omega.{arith}
use mir.Syntax.{w8, w16, w32, w64}
use Rattle.std.specs.Int.{from_le_bytes, from_be_bytes}
use mir.Val.{Fits}
use Rattle.word.specs.Bytes.{stretch, part, Stands}
use Rattle.word.specs.Words.{u16_of, u32_of, u16_at, u32_at}
use Rattle.word.specs.declared.Endian.{Endian}
use Rattle.word.specs.declared.Endian.TheVariants.{Little, Big}

-- ---- bytes
pub byte_past : (s : List ℕ) (at : ℕ) → length s ≤ at → 0 ≡ get_or s at 0
byte_past s at h = sym (get_or-eq_default s 0 h)

-- a byte of a slice fits a wider type
pub byte_fits : (s : List ℕ) (i : ℕ) → ((k : ℕ) → Fits w8 (get_or s k 0)) → Fits w64 (get_or s i 0)
byte_fits s i h = omega (arith, h i)

pub length_stretch : (s : List ℕ) (p n : ℕ) → length (stretch s p n) ≡ n
unfolding stretch
length_stretch s p zero = refl
length_stretch s p (suc n) = ap suc (length_stretch s (p + 1) n)

module _ (s : List ℕ) (p n : ℕ) where
  pub part_none : length s < p → [] ≡ part s p n
  unfolding part
  part_none h = rw (lt-leb (p + n) (length s) (omega arith))

  pub part_short : p ≤ length s → length s - p < n → [] ≡ part s p n
  unfolding part
  part_short h q = rw (lt-leb (p + n) (length s) (omega arith))

  pub part_whole : p + n ≤ length s → part s p n ≡ stretch s p n
  unfolding part
  part_whole h = rw (le-leb (p + n) (length s) h)

pub taken : (s : List ℕ) (p n : ℕ) → p + n ≤ length s → take n (drop p s) ≡ stretch s p n
unfolding stretch
taken s p zero h = refl
taken s p (suc n) h = ap (take (suc n)) (drop-cons s p 0 (omega arith)) ∙ ap (λ (l : List ℕ). get_or s p 0 ∷ l) (ap (λ (q : ℕ). take n (drop q s)) (sym (add-one p)) ∙ taken s (p + 1) n (omega arith))

pub part_there : (s : List ℕ) (p n : ℕ) → p ≤ length s → n ≤ length s - p → take (p + n - p) (drop p s) ≡ part s p n
part_there s p n h q =
    let size : p + n - p ≡ n = omega arith in
    ap (λ (m : ℕ). take m (drop p s)) size ∙ taken s p n (omega arith) ∙ sym (part_whole s p n (omega arith))

-- what stands at a place is the part that lies there
pub stands_part : {s : List ℕ} {p q : ℕ} {l : List ℕ} → Stands s p l q → part s p (length l) ≡ l
stands_part {s} {p} {q} {l} h = let e = h.ends in let i = h.inside in part_whole s p (length l) (omega arith) ∙ h.bytes_there

-- ---- do bytes fit
pub room_none : (len at n : ℕ) → len < at → false ≡ leb (at + n) len
room_none len at n h = sym (lt-leb (at + n) len (omega arith))

pub room_left : (len at n : ℕ) → at ≤ len → leb n (len - at) ≡ leb (at + n) len
room_left len at n h = go (leb n (len - at)) refl
  where
    go : (b : Bool) → leb n (len - at) ≡ b → b ≡ leb (at + n) len
    go true e = let l = leb-true n (len - at) e in sym (le-leb (at + n) len (omega arith))
    go false e = let l = leb-false n (len - at) e in sym (lt-leb (at + n) len (omega arith))

pub room_there : (len at n : ℕ) {t : Bool} → t ≡ leb (at + n) len → t ≡ true → at + n ≤ len
room_there len at n e m = leb-true (at + n) len (sym e ∙ m)

pub room_fits : (len at n : ℕ) {t : Bool} → t ≡ leb (at + n) len → t ≡ true → Fits w64 len → Fits w64 (at + n)
room_fits len at n e m f = let h = room_there len at n e m in omega arith

-- ---- words
-- the library's words, by the weights of their bytes
pub little_two : (a b : ℕ) → from_le_bytes w16 (a ∷ b ∷ []) ≡ a + 256 * b
little_two a b = omega arith

pub big_two : (a b : ℕ) → from_be_bytes w16 (a ∷ b ∷ []) ≡ 256 * a + b
big_two a b = omega arith

pub little_four : (a b c d : ℕ) → from_le_bytes w32 (a ∷ b ∷ c ∷ d ∷ []) ≡ a + 256 * b + 65536 * c + 16777216 * d
little_four a b c d = omega arith

pub big_four : (a b c d : ℕ) → from_be_bytes w32 (a ∷ b ∷ c ∷ d ∷ []) ≡ 16777216 * a + 65536 * b + 256 * c + d
big_four a b c d = omega arith

-- the two orders are each other's reverse
pub u16_reverse : (a b : ℕ) → u16_of Big a b ≡ u16_of Little b a
unfolding u16_of
u16_reverse a b = omega arith

pub u32_reverse : (a b c d : ℕ) → u32_of Big a b c d ≡ u32_of Little d c b a
unfolding u32_of
u32_reverse a b c d = omega arith

-- the ranges
pub u16_small : (o : Endian) (a b : ℕ) → a < 256 → b < 256 → u16_of o a b < 2 ^ 16
unfolding u16_of
u16_small Little a b p q = omega arith
u16_small Big a b p q = omega arith

pub u32_small : (o : Endian) (a b c d : ℕ) → a < 256 → b < 256 → c < 256 → d < 256 → u32_of o a b c d < 2 ^ 32
unfolding u32_of
u32_small Little a b c d p q r t = omega arith
u32_small Big a b c d p q r t = omega arith

-- ---- what the functions' proofs cite
-- a word by the order that was matched
module _ (o : Endian) (a b : ℕ) where
  pub u16_little : {r : ℕ} → o ≡ Little → r ≡ from_le_bytes w16 (a ∷ b ∷ []) → r ≡ u16_of o a b
  unfolding u16_of
  u16_little e h = h ∙ little_two a b ∙ rw e refl

  pub u16_big : {r : ℕ} → o ≡ Big → r ≡ from_be_bytes w16 (a ∷ b ∷ []) → r ≡ u16_of o a b
  unfolding u16_of
  u16_big e h = h ∙ big_two a b ∙ rw e refl

  module _ (c d : ℕ) where
    pub u32_little : {r : ℕ} → o ≡ Little → r ≡ from_le_bytes w32 (a ∷ b ∷ c ∷ d ∷ []) → r ≡ u32_of o a b c d
    unfolding u32_of
    u32_little e h = h ∙ little_four a b c d ∙ rw e refl

    pub u32_big : {r : ℕ} → o ≡ Big → r ≡ from_be_bytes w32 (a ∷ b ∷ c ∷ d ∷ []) → r ≡ u32_of o a b c d
    unfolding u32_of
    u32_big e h = h ∙ big_four a b c d ∙ rw e refl

-- a word from the bytes that were read
pub u16_by : (o : Endian) (s : List ℕ) (at : ℕ) {b r : ℕ} → b ≡ get_or s (at + 1) 0 → r ≡ u16_of o (get_or s at 0) b → r ≡ u16_at o s at
unfolding u16_at
u16_by o s at e h = rw (← e) h

pub u32_by : (o : Endian) (s : List ℕ) (at : ℕ) {b c d r : ℕ} → b ≡ get_or s (at + 1) 0 → c ≡ get_or s (at + 2) 0 → d ≡ get_or s (at + 3) 0
    → r ≡ u32_of o (get_or s at 0) b c d → r ≡ u32_at o s at
unfolding u32_at
u32_by o s at e f g h = rw (← e, ← f, ← g) h

-- a word that lies inside, the low byte first
pub u16_inside : (o : Endian) (s : List ℕ) (at : ℕ) {r : ℕ} → o ≡ Little → r ≡ from_le_bytes w16 (get_or s at 0 ∷ get_or s (at + 1) 0 ∷ []) → r ≡ u16_at o s at
unfolding u16_at
u16_inside o s at e h = u16_little o (get_or s at 0) (get_or s (at + 1) 0) e h

pub u32_inside : (o : Endian) (s : List ℕ) (at : ℕ) {r : ℕ} → o ≡ Little
    → r ≡ from_le_bytes w32 (get_or s at 0 ∷ get_or s (at + 1) 0 ∷ get_or s (at + 2) 0 ∷ get_or s (at + 3) 0 ∷ []) → r ≡ u32_at o s at
unfolding u32_at
u32_inside o s at e h = u32_little o (get_or s at 0) (get_or s (at + 1) 0) (get_or s (at + 2) 0) (get_or s (at + 3) 0) e h

pub u16_past : (o : Endian) (s : List ℕ) (at : ℕ) → length s ≤ at → 0 ≡ u16_at o s at
unfolding u16_at u16_of
u16_past Little s at h = omega (arith, byte_past s at h, byte_past s (at + 1) (omega arith))
u16_past Big s at h = omega (arith, byte_past s at h, byte_past s (at + 1) (omega arith))

pub u32_past : (o : Endian) (s : List ℕ) (at : ℕ) → length s ≤ at → 0 ≡ u32_at o s at
unfolding u32_at u32_of
u32_past Little s at h = omega (arith, byte_past s at h, byte_past s (at + 1) (omega arith), byte_past s (at + 2) (omega arith), byte_past s (at + 3) (omega arith))
u32_past Big s at h = omega (arith, byte_past s at h, byte_past s (at + 1) (omega arith), byte_past s (at + 2) (omega arith), byte_past s (at + 3) (omega arith))

pub ruleset laws = (byte_past, room_none, room_left, part_none, part_short, part_there, u16_little, u16_big, u32_little, u32_big, u16_by, u32_by, u16_inside, u32_inside, u16_past, u32_past, rules)
