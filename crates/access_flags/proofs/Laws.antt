-- What the functions' proofs cite: the test of a bit, the loops that count and write, and the two ways of the writer.
-- Assumes nothing.
use Prim.Native.Nat.{ℕ, suc, ◌+◌, ◌-◌, ◌%◌, ◌/◌, ◌<◌, ◌≤◌}
use mathlib.Core.Path.{◌≡◌, refl, ap, sym, ◌∙◌}
use mathlib.Core.Bool.{Bool, true, false, not}
use mathlib.Core.List.{List, ◌∷◌, ◌++◌, append_assoc}
use lib.ListN.{length, take, drop, set, length-set, take-append-drop}
use lib.Seq.{take-suc-set, drop-set-lt, drop-drop}
use lib.Dec.{eqb}
use borrow.Author.Rules.{rules}
use borrow.Author.Tests.{le-leb, lt-leb, eq-eqb, ne_eqb}
use native.Mathlib.Numerals.{add-one}
use native.Mathlib.Omega.{arith}
use mir.Syntax.{w64}
use mir.Val.{Fits}
use Rattle.refusal.specs.Refusals.{no_room}
use Rattle.refusal.specs.declared.Refusal.{Refusal}
use Rattle.refusal.specs.Outcome.{answer, refused}
use Rattle.refusal.proofs.Laws.{passes, fails}
use Rattle.access_flags.specs.Flags.{kept, bits, flag_bits, flags, filled, written, content}

-- ---- the test of a bit
module _ (class : Bool) (i v : ℕ) where
  pub bit_clear : (v % 2 ≡ 1 → ⊥) → false ≡ kept class i v
  unfolding kept
  bit_clear h = rw (ne_eqb (v % 2) 1 h)

  module _ (is : v % 2 ≡ 1) where
    pub bit_six : class ≡ true → i ≡ 6 → false ≡ kept class i v
    unfolding kept
    bit_six c e = rw (eq-eqb (v % 2) 1 is, c, eq-eqb i 6 e)

    pub bit_seven : class ≡ true → (i ≡ 6 → ⊥) → not (eqb i 7) ≡ kept class i v
    unfolding kept
    bit_seven c e = rw (eq-eqb (v % 2) 1 is, c, ne_eqb i 6 e)

    pub bit_other : class ≡ false → true ≡ kept class i v
    unfolding kept
    bit_other c = rw (eq-eqb (v % 2) 1 is, c)

-- ---- the bits while some are left
module _ (class : Bool) (i v : ℕ) {b : Bool} (l : i < flag_bits) (asked : b ≡ kept class i v) where
  bits_in : b ≡ true → bits (flag_bits - i) class i v ≡ i ∷ bits (flag_bits - (i + 1)) class (i + 1) (v / 2)
  unfolding bits
  bits_in t = let more : flag_bits - i ≡ suc (flag_bits - (i + 1)) = omega arith in rw (more, ← asked, t)

  bits_out : b ≡ false → bits (flag_bits - i) class i v ≡ bits (flag_bits - (i + 1)) class (i + 1) (v / 2)
  unfolding bits
  bits_out t = let more : flag_bits - i ≡ suc (flag_bits - (i + 1)) = omega arith in rw (more, ← asked, t)

-- ---- the loop of `count_of` before bit i: n numbers were found
pub record Counting (class : Bool) (value n i v : ℕ) : Type 0 where
  all : n + length (bits (flag_bits - i) class i v) ≡ length (flags class value)
  few : n ≤ i

pub counting_first : (class : Bool) (value : ℕ) → Counting class value 0 0 value
unfolding flags
counting_first class value = record { all = omega arith; few = omega arith }

module _ {class : Bool} {value n i v : ℕ} (h : Counting class value n i v) where
  pub counting_few : i < flag_bits → Fits w64 (n + 1)
  counting_few l = let y = h.few in record { fits = omega arith }

  pub counting_in : {b : Bool} → i < flag_bits → b ≡ kept class i v → b ≡ true → Counting class value (n + 1) (i + 1) (v / 2)
  counting_in l e t = record { all = let z = ap length (bits_in class i v l e t) in let y = h.all in omega arith; few = let z = h.few in omega arith }

  pub counting_out : {b : Bool} → i < flag_bits → b ≡ kept class i v → b ≡ false → Counting class value n (i + 1) (v / 2)
  counting_out l e t = record { all = ap (λ (x : List ℕ). n + length x) (sym (bits_out class i v l e t)) ∙ h.all; few = let z = h.few in omega arith }

  pub counting_done : flag_bits ≤ i → n ≡ length (flags class value)
  unfolding bits
  counting_done l =
      let none : flag_bits - i ≡ 0 = omega arith in
      let z = ap (λ (k : ℕ). n + length (bits k class i v)) (sym none) ∙ h.all in
      omega arith

-- ---- the loop of `fill`: p numbers were written
fill_step : (out vs : List ℕ) (p v : ℕ) → p < length out → take p out ++ filled (v ∷ vs) (drop p out) ≡ take (p + 1) (set out p v) ++ filled vs (drop (p + 1) (set out p v))
unfolding filled
fill_step out vs p v h =
    let same : p + suc (length vs) ≡ suc p + length vs = omega arith in
    rw (add-one p, take-suc-set out p v h, drop-set-lt (suc p) out p v (omega arith), drop-drop (suc (length vs)) p out, drop-drop (length vs) (suc p) out, append_assoc, same)

pub record Filling (class : Bool) (value : ℕ) (out₀ out : List ℕ) (p i v : ℕ) : Type 0 where
  same : filled (flags class value) out₀ ≡ take p out ++ filled (bits (flag_bits - i) class i v) (drop p out)
  pub long : length out ≡ length out₀
  room : p + length (bits (flag_bits - i) class i v) ≤ length out
  few : p ≤ i

pub filling_first : (class : Bool) (value : ℕ) (out : List ℕ) → length (flags class value) ≤ length out → Filling class value out out 0 0 value
unfolding flags
filling_first class value out h = record { same = refl; long = refl; room = omega arith; few = omega arith }

module _ {class : Bool} {value : ℕ} {out₀ out : List ℕ} {p i v : ℕ} (h : Filling class value out₀ out p i v) where
  pub filling_few : i < flag_bits → Fits w64 (p + 1)
  filling_few l = let y = h.few in record { fits = omega arith }

  module _ {b : Bool} (l : i < flag_bits) (e : b ≡ kept class i v) where
    pub filling_room : b ≡ true → p < length out
    filling_room t = let z = ap length (bits_in class i v l e t) in let y = h.room in omega arith

    pub filling_room₀ : b ≡ true → p < length out₀
    filling_room₀ t = let z = filling_room t in let y = h.long in omega arith

    pub filling_in : b ≡ true → Filling class value out₀ (set out p i) (p + 1) (i + 1) (v / 2)
    filling_in t = record {
      same = h.same ∙ ap (λ (vs : List ℕ). take p out ++ filled vs (drop p out)) (bits_in class i v l e t) ∙ fill_step out (bits (flag_bits - (i + 1)) class (i + 1) (v / 2)) p i (filling_room t);
      long = length-set out p i ∙ h.long;
      room = let z = ap length (bits_in class i v l e t) in let y = h.room in let x = length-set out p i in omega arith;
      few = let z = h.few in omega arith;
    }

    pub filling_out : b ≡ false → Filling class value out₀ out p (i + 1) (v / 2)
    filling_out t = record {
      same = h.same ∙ ap (λ (vs : List ℕ). take p out ++ filled vs (drop p out)) (bits_out class i v l e t);
      long = h.long;
      room = let z = ap length (bits_out class i v l e t) in let y = h.room in omega arith;
      few = let z = h.few in omega arith;
    }

  pub filling_done : flag_bits ≤ i → out ≡ filled (flags class value) out₀
  unfolding bits filled
  filling_done l =
      let none : flag_bits - i ≡ 0 = omega arith in
      sym (h.same ∙ ap (λ (k : ℕ). take p out ++ filled (bits k class i v) (drop p out)) none ∙ take-append-drop p out)

-- ---- the writer's two ways
module _ (class : Bool) (value : ℕ) (out : List ℕ) {n : ℕ} (e : n ≡ length (flags class value)) where
  pub short_answer : {r : Refusal} → length out < n → r ≡ no_room → refused r ≡ written class value (length out)
  unfolding written
  short_answer h made = fails _ made (lt-leb (length (flags class value)) (length out) (let z = e in omega arith))

  pub short_content : length out < n → out ≡ content class value out
  unfolding content
  short_content h = rw (lt-leb (length (flags class value)) (length out) (let z = e in omega arith))

  pub room_there : n ≤ length out → length (flags class value) ≤ length out
  room_there h = let z = e in omega arith

  pub whole_answer : n ≤ length out → answer n ≡ written class value (length out)
  unfolding written
  whole_answer h = passes no_room (le-leb (length (flags class value)) (length out) (let z = e in omega arith)) (ap answer e)

  pub whole_content : {l : List ℕ} → n ≤ length out → l ≡ filled (flags class value) out → l ≡ content class value out
  unfolding content
  whole_content h q = rw (le-leb (length (flags class value)) (length out) (let z = e in omega arith)) q

pub ruleset bit_laws = (bit_clear, bit_six, bit_seven, bit_other, rules)

pub ruleset counting = (counting_first, counting_few, counting_in, counting_out, counting_done, rules)

pub ruleset filling = (filling_first, filling_few, filling_room, filling_room₀, filling_in, filling_out, filling_done, rules)

pub ruleset writer = (short_answer, short_content, room_there, whole_answer, whole_content, rules)
