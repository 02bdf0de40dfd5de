-- docs/REGISTER.md, "Texts": the writing is one to one. Two texts that are written the same have the same bytes, in either form.
-- And numbers: two that are written the same are the same.
-- Assumes nothing.
use Prim.Native.Nat.{ℕ, zero, suc, ◌*◌, ◌/◌, ◌%◌, ◌^◌, ◌≤◌, ◌<◌}
use mathlib.Core.Path.{◌≡◌, refl, ap, sym, ◌∙◌}
use mathlib.Core.Bool.{Bool, true, false, cond}
use mathlib.Core.List.{List, [], ◌∷◌, ◌++◌}
use lib.IntN.{ℤ, pos, negsuc}
use lib.ListN.{take, drop}
use lib.Seq.{take_at, drop_at}
use lib.Dec.{ltb, eqb}
use borrow.Author.Tests.{ltb-true, ltb-false, eq-eqb, eqb-true}
use native.Mathlib.Nat.{pow-succ', mul_comm, mul_assoc}
use native.Mathlib.Omega.{arith}
use Rattle.report.specs.Decimal.{decimal, valued, Digits, none, digit}
use Rattle.report.proofs.Decimals.{decimal_reads_back}
use Rattle.register_text.specs.Escapes.{special, hex, form, escaped}
use Rattle.register_text.specs.Numbers.{signed, integer, hexadecimal}
use Rattle.register_text.specs.Wholes.{Halves, exactly, broken, halved_by}
use Rattle.register_text.proofs.NumberLaws.{hexadecimal_long}
use Rattle.register_text.proofs.Laws.{form_special, form_plain, small_hex, large_hex}

-- ---- digits
-- by the test whether a digit is one of the ten
by_ten : {P : Type 0} (n : ℕ) → (n < 10 → P) → (10 ≤ n → P) → P
by_ten {P} n small large = pick (ltb n 10) (λ e. small (ltb-true n 10 e)) (λ e. large (ltb-false n 10 e)) refl
  where
    pick : (b : Bool) → (b ≡ true → P) → (b ≡ false → P) → b ≡ b → P
    pick true s l e = s refl
    pick false s l e = l refl

hex_once : (x y : ℕ) → hex x ≡ hex y → x ≡ y
hex_once x y e =
    by_ten x
    (λ s. by_ten y (λ t. let z = small_hex x s in let w = small_hex y t in omega (arith, e, z, w)) (λ t. let z = small_hex x s in let w = large_hex y t in absurd (omega (arith, e, z, w))))
    (λ s. by_ten y (λ t. let z = large_hex x s in let w = small_hex y t in absurd (omega (arith, e, z, w))) (λ t. let z = large_hex x s in let w = large_hex y t in omega (arith, e, z, w)))

halves_once : (x y : ℕ) → x / 16 ≡ y / 16 → x % 16 ≡ y % 16 → x ≡ y
halves_once x y d m = omega arith

-- ---- texts
head_of : List ℕ → ℕ
head_of [] = 0
head_of (b ∷ bs) = b

tail_of : List ℕ → List ℕ
tail_of [] = []
tail_of (b ∷ bs) = bs

-- a backslash is special, so none is written as itself
slash : (key : Bool) → special key 92 ≡ true
unfolding special
slash key = refl

pub data Way (key : Bool) (b : ℕ) : Type 0 where
  by_number : form key b ≡ 92 ∷ 120 ∷ hex (b / 16) ∷ hex (b % 16) ∷ [] → Way key b
  itself : (b ≡ 92 → ⊥) → form key b ≡ b ∷ [] → Way key b

way : (key : Bool) (b : ℕ) → Way key b
way key b = pick (special key b) refl
  where
    pick : (t : Bool) → special key b ≡ t → Way key b
    pick true e = by_number (form_special key b e)
    pick false e = itself (λ s. let z : true ≡ false = sym (slash key) ∙ ap (λ (k : ℕ). special key k) (sym s) ∙ e in let q : ◌≡◌ {A = ℕ} 0 1 = cc z in omega arith) (form_plain key b e)

-- what a writing begins with is one byte's
begins : (key : Bool) (x y : ℕ) (xs ys : List ℕ) → form key x ++ xs ≡ form key y ++ ys → (x ≡ y) × (xs ≡ ys)
unfolding head_of tail_of
begins key x y xs ys e = by (way key x) (way key y)
  where
    by : Way key x → Way key y → (x ≡ y) × (xs ≡ ys)
    by (by_number f) (by_number g) =
        let all : 92 ∷ 120 ∷ hex (x / 16) ∷ hex (x % 16) ∷ xs ≡ 92 ∷ 120 ∷ hex (y / 16) ∷ hex (y % 16) ∷ ys = ap (λ (l : List ℕ). l ++ xs) (sym f) ∙ e ∙ ap (λ (l : List ℕ). l ++ ys) g in
        let high = hex_once (x / 16) (y / 16) (ap (λ (l : List ℕ). head_of (tail_of (tail_of l))) all) in
        let low = hex_once (x % 16) (y % 16) (ap (λ (l : List ℕ). head_of (tail_of (tail_of (tail_of l)))) all) in
        (halves_once x y high low, ap (λ (l : List ℕ). tail_of (tail_of (tail_of (tail_of l)))) all)
    by (by_number f) (itself n g) =
        let all : 92 ∷ 120 ∷ hex (x / 16) ∷ hex (x % 16) ∷ xs ≡ y ∷ ys = ap (λ (l : List ℕ). l ++ xs) (sym f) ∙ e ∙ ap (λ (l : List ℕ). l ++ ys) g in
        absurd (n (sym (ap head_of all)))
    by (itself n f) (by_number g) =
        let all : x ∷ xs ≡ 92 ∷ 120 ∷ hex (y / 16) ∷ hex (y % 16) ∷ ys = ap (λ (l : List ℕ). l ++ xs) (sym f) ∙ e ∙ ap (λ (l : List ℕ). l ++ ys) g in
        absurd (n (ap head_of all))
    by (itself n f) (itself m g) =
        let all : x ∷ xs ≡ y ∷ ys = ap (λ (l : List ℕ). l ++ xs) (sym f) ∙ e ∙ ap (λ (l : List ℕ). l ++ ys) g in
        (ap head_of all, ap tail_of all)

-- a writing of something is not empty
some : (key : Bool) (x : ℕ) (xs : List ℕ) → form key x ++ xs ≡ [] → ⊥
some key x xs e = by (way key x)
  where
    by : Way key x → ⊥
    by (by_number f) = let z : 92 ∷ 120 ∷ hex (x / 16) ∷ hex (x % 16) ∷ xs ≡ [] = ap (λ (l : List ℕ). l ++ xs) (sym f) ∙ e in let q : ◌≡◌ {A = ℕ} 0 1 = cc z in omega arith
    by (itself n f) = let z : x ∷ xs ≡ [] = ap (λ (l : List ℕ). l ++ xs) (sym f) ∙ e in let q : ◌≡◌ {A = ℕ} 0 1 = cc z in omega arith

one_to_one : (key : Bool) (xs ys : List ℕ) → escaped key xs ≡ escaped key ys → xs ≡ ys
unfolding escaped
one_to_one key [] [] e = refl
one_to_one key [] (y ∷ ys) e = absurd (some key y (escaped key ys) (sym e))
one_to_one key (x ∷ xs) [] e = absurd (some key x (escaped key xs) e)
one_to_one key (x ∷ xs) (y ∷ ys) e =
    let first = begins key x y (escaped key xs) (escaped key ys) e in
    ap (λ (b : ℕ). b ∷ xs) first.0 ∙ ap (λ (l : List ℕ). y ∷ l) (one_to_one key xs ys first.1)

-- "two texts that are written the same have the same bytes"
pub escape_one_to_one : (xs ys : List ℕ) → escaped false xs ≡ escaped false ys → xs ≡ ys
escape_one_to_one = one_to_one false

-- the same of the names of keys
pub key_one_to_one : (xs ys : List ℕ) → escaped true xs ≡ escaped true ys → xs ≡ ys
key_one_to_one = one_to_one true

-- ---- numbers
pub decimal_one_to_one : (m n : ℕ) → decimal m ≡ decimal n → m ≡ n
decimal_one_to_one m n e = sym (decimal_reads_back m).says ∙ ap (λ (t : List ℕ). valued 0 t) e ∙ (decimal_reads_back n).says

-- no digits begin with a minus
no_minus : (n : ℕ) (t : List ℕ) → decimal n ≡ 45 ∷ t → ⊥
no_minus n t e = by (decimal n) (decimal_reads_back n).digits e
  where
    by : (l : List ℕ) → Digits l → l ≡ 45 ∷ t → ⊥
    by [] none q = let z : ◌≡◌ {A = ℕ} 0 1 = cc q in omega arith
    by (d ∷ ds) (digit l h rest) q = let z : d ≡ 45 = cc q in omega (arith, l, z)

pub integer_one_to_one : (x y : ℤ) → integer x ≡ integer y → x ≡ y
unfolding integer signed tail_of
integer_one_to_one (pos m) (pos n) e = ap pos (decimal_one_to_one m n e)
integer_one_to_one (pos m) (negsuc n) e = absurd (no_minus m (decimal (suc n)) e)
integer_one_to_one (negsuc m) (pos n) e = absurd (no_minus n (decimal (suc m)) (sym e))
integer_one_to_one (negsuc m) (negsuc n) e = let z = decimal_one_to_one (suc m) (suc n) (ap tail_of e) in ap negsuc (let y = z in omega arith)

-- so many hexadecimal digits of numbers that have no more
pub hexadecimal_one_to_one : (k m n : ℕ) → m < 16 ^ k → n < 16 ^ k → hexadecimal k m ≡ hexadecimal k n → m ≡ n
unfolding hexadecimal head_of
hexadecimal_one_to_one zero m n l h e = omega arith
hexadecimal_one_to_one (suc k) m n l h e =
    let power = pow-succ' 16 k in
    let front : hexadecimal k (m / 16) ≡ hexadecimal k (n / 16) = sym (take_at (hexadecimal k (m / 16)) (hex (m % 16) ∷ []) k (hexadecimal_long k (m / 16))) ∙ ap (λ (t : List ℕ). take k t) e ∙ take_at (hexadecimal k (n / 16)) (hex (n % 16) ∷ []) k (hexadecimal_long k (n / 16)) in
    let last : hex (m % 16) ∷ [] ≡ hex (n % 16) ∷ [] = sym (drop_at (hexadecimal k (m / 16)) (hex (m % 16) ∷ []) k (hexadecimal_long k (m / 16))) ∙ ap (λ (t : List ℕ). drop k t) e ∙ drop_at (hexadecimal k (n / 16)) (hex (n % 16) ∷ []) k (hexadecimal_long k (n / 16)) in
    let high = hexadecimal_one_to_one k (m / 16) (n / 16) (omega arith) (omega arith) front in
    halves_once m n high (hex_once (m % 16) (n % 16) (ap head_of last))

-- ---- a number that is halved k times and stays whole is so many times 2 ^ k
twice : (m k n : ℕ) → n ≡ m * 2 ^ k → 2 * n ≡ m * 2 ^ suc k
twice m k n e = ap (λ (j : ℕ). 2 * j) e ∙ sym (mul_assoc 2 m (2 ^ k)) ∙ ap (λ (q : ℕ). q * 2 ^ k) (mul_comm 2 m) ∙ mul_assoc m 2 (2 ^ k) ∙ ap (λ (j : ℕ). m * j) (sym (pow-succ' 2 k))

out_of : Halves → ℕ
out_of (exactly n) = n
out_of broken = 0

pub halved_sound : (k n m : ℕ) → halved_by k n ≡ exactly m → n ≡ m * 2 ^ k
unfolding halved_by out_of
halved_sound zero n m e = let z : n ≡ m = ap out_of e in z ∙ (omega arith)
halved_sound (suc k) n m e = by (eqb (n % 2) 0) refl e (halved_sound k (n / 2) m)
  where
    by : (t : Bool) → eqb (n % 2) 0 ≡ t → cond t (halved_by k (n / 2)) broken ≡ exactly m → (halved_by k (n / 2) ≡ exactly m → n / 2 ≡ m * 2 ^ k) → n ≡ m * 2 ^ suc k
    by true t q below =
        let even = eqb-true (n % 2) 0 t in
        let whole : n ≡ 2 * (n / 2) = omega arith in
        whole ∙ twice m k (n / 2) (below q)
    by false t q below = let z : ◌≡◌ {A = ℕ} 0 1 = cc q in absurd (omega arith)

pub halved_complete : (k n m : ℕ) → n ≡ m * 2 ^ k → halved_by k n ≡ exactly m
unfolding halved_by
halved_complete zero n m e = ap exactly (e ∙ (omega arith))
halved_complete (suc k) n m e =
    let whole : n ≡ 2 * (m * 2 ^ k) = e ∙ sym (twice m k (m * 2 ^ k) refl) in
    let half : n / 2 ≡ m * 2 ^ k = omega arith in
    rw (eq-eqb (n % 2) 0 (omega arith)) (halved_complete k (n / 2) m half)
