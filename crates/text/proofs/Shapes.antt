-- What the bytes of a unit's form look like, in the words in which they are tested.
-- Assumes nothing.
use Prim.Native.Nat.{ℕ, ◌+◌, ◌/◌, ◌%◌, ◌^◌, ◌<◌, ◌≤◌}
use mathlib.Core.Path.{◌≡◌, refl, sym, subst, ◌∙◌}
use mathlib.Core.Logic.{◌⊎◌, inl, inr}
use mathlib.Core.Bool.{Bool, true, false}
use mathlib.Core.List.{List, [], ◌∷◌}
use lib.ListN.{length}
use lib.Dec.{ltb}
use borrow.Author.Tests.{ltb-true, ltb-false, lt-ltb, le-ltb}
use native.Mathlib.Omega.{arith}
use Rattle.text.specs.Units.{two, three, form}
use Rattle.text.specs.Text.{unit2, unit3}

pub record Two (u a b : ℕ) : Type 0 where
  pub head : a / 32 ≡ 6
  pub second : b / 64 ≡ 2
  pub shortest : (0x80 ≤ u) ⊎ (u ≡ 0)
  pub value : unit2 a b ≡ u

pub record Three (u a b c : ℕ) : Type 0 where
  pub head : a / 16 ≡ 14
  pub second : b / 64 ≡ 2
  pub third : c / 64 ≡ 2
  pub shortest : 0x800 ≤ u
  pub value : unit3 a b c ≡ u

pub data Shape (u : ℕ) : List ℕ → Type 0 where
  in_one : 0 < u → u < 0x80 → Shape u (u ∷ [])
  in_two : {a b : ℕ} → Two u a b → Shape u (a ∷ b ∷ [])
  in_three : {a b c : ℕ} → Three u a b c → Shape u (a ∷ b ∷ c ∷ [])

-- the form of a unit has such a shape
shape_two : (u : ℕ) → u < 0x800 → (0x80 ≤ u) ⊎ (u ≡ 0) → Shape u (two u)
shape_two u h w =
    let t : Two u (0xc0 + u / 64) (0x80 + u % 64) = record { head = omega arith; second = omega arith; shortest = w; value = omega arith } in
    in_two t

shape_three : (u : ℕ) → u < 2 ^ 16 → 0x800 ≤ u → Shape u (three u)
shape_three u h w =
    let t : Three u (0xe0 + u / 4096) (0x80 + u / 64 % 64) (0x80 + u % 64) =
    record { head = omega arith; second = omega arith; third = omega arith; shortest = w; value = omega arith } in
    in_three t

form_one : (u : ℕ) → 0 < u → u < 0x80 → u ∷ [] ≡ form u
unfolding form
form_one u p q = rw (lt-ltb 0 u p, lt-ltb u 0x80 q)

form_two : (u : ℕ) → u < 0x800 → (0x80 ≤ u) ⊎ (u ≡ 0) → two u ≡ form u
unfolding form
form_two u h (inl p) = rw (lt-ltb 0 u (omega arith), le-ltb u 0x80 p, lt-ltb u 0x800 h)
form_two u h (inr e) = rw (le-ltb 0 u (omega arith), lt-ltb u 0x800 h)

form_three : (u : ℕ) → 0x800 ≤ u → three u ≡ form u
unfolding form
form_three u h = rw (lt-ltb 0 u (omega arith), le-ltb u 0x80 (omega arith), le-ltb u 0x800 h)

pub shape : (u : ℕ) → u < 2 ^ 16 → Shape u (form u)
shape u h = go (ltb 0 u) refl (ltb u 0x80) refl (ltb u 0x800) refl
  where
    go : (a : Bool) → ltb 0 u ≡ a → (b : Bool) → ltb u 0x80 ≡ b → (c : Bool) → ltb u 0x800 ≡ c → Shape u (form u)
    go true p true q c r = subst (Shape u) (form_one u (ltb-true 0 u p) (ltb-true u 0x80 q)) (in_one (ltb-true 0 u p) (ltb-true u 0x80 q))
    go true p false q true r =
        let w = inl (ltb-false u 0x80 q) in
        subst (Shape u) (form_two u (ltb-true u 0x800 r) w) (shape_two u (ltb-true u 0x800 r) w)
    go true p false q false r = subst (Shape u) (form_three u (ltb-false u 0x800 r)) (shape_three u h (ltb-false u 0x800 r))
    go false p b q c r =
        let z : u ≡ 0 = omega (arith, ltb-false 0 u p) in
        let w : u < 0x800 = omega arith in
        subst (Shape u) (form_two u w (inr z)) (shape_two u w (inr z))

-- and what has such a shape is the form of a unit
pub shape_form : {u : ℕ} {l : List ℕ} → Shape u l → form u ≡ l
shape_form {u} (in_one p q) = sym (form_one u p q)
shape_form {u} (in_two {a = a} {b = b} t) =
    let h = t.head in let s = t.second in let v = t.value in
    let x : 0xc0 + u / 64 ≡ a = omega arith in
    let y : 0x80 + u % 64 ≡ b = omega arith in
    sym (form_two u (omega arith) t.shortest) ∙ (λ i. x i ∷ y i ∷ [])
shape_form {u} (in_three {a = a} {b = b} {c = c} t) =
    let h = t.head in let s = t.second in let w = t.third in let v = t.value in
    let x : 0xe0 + u / 4096 ≡ a = omega arith in
    let y : 0x80 + u / 64 % 64 ≡ b = omega arith in
    let z : 0x80 + u % 64 ≡ c = omega arith in
    sym (form_three u t.shortest) ∙ (λ i. x i ∷ y i ∷ z i ∷ [])

pub shape_small : {u : ℕ} {l : List ℕ} → Shape u l → u < 2 ^ 16
shape_small (in_one p q) = omega arith
shape_small (in_two t) = let v = t.value in omega arith
shape_small (in_three t) = let v = t.value in omega arith

pub shape_some : {u : ℕ} {l : List ℕ} → Shape u l → 1 ≤ length l
shape_some (in_one p q) = omega arith
shape_some (in_two t) = omega arith
shape_some (in_three t) = omega arith
