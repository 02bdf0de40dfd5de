-- Laws of `Stands`: bytes that stand at a place, taken apart and put together.
-- Assumes nothing.
use Prim.Native.Nat.{ℕ, ◌+◌, ◌-◌, ◌<◌}
use mathlib.Core.Path.{◌≡◌, refl, ap, subst, ◌∙◌}
use mathlib.Core.List.{List, [], ◌∷◌, ◌++◌}
use lib.ListN.{length, get_or}
use native.Mathlib.Omega.{arith}
use Rattle.word.specs.Bytes.{stretch, Stands}

module _ (s : List ℕ) (p : ℕ) where
  pub stands_one : p < length s → Stands s p (get_or s p 0 ∷ []) (p + 1)
  unfolding stretch
  stands_one h = record { bytes_there = refl; ends = omega arith; inside = omega arith }

  pub stands_more : {l : List ℕ} {q : ℕ} → Stands s (p + 1) l q → Stands s p (get_or s p 0 ∷ l) q
  unfolding stretch
  stands_more {l} {q} h = let e = h.ends in record { bytes_there = ap (λ (x : List ℕ). get_or s p 0 ∷ x) h.bytes_there; ends = omega arith; inside = h.inside }

  -- a first byte, and the rest
  pub record First (b : ℕ) (l : List ℕ) (q : ℕ) : Type 0 where
    pub byte : get_or s p 0 ≡ b
    pub room : p < length s
    pub rest : Stands s (p + 1) l q

  pub stands_first : {b : ℕ} {l : List ℕ} {q : ℕ} → Stands s p (b ∷ l) q → First b l q
  unfolding stretch
  stands_first {b} {l} {q} h =
      let e = h.ends in
      let i = h.inside in
      let there = h.bytes_there in
      record { byte = cc; room = omega arith; rest = record { bytes_there = cc; ends = omega arith; inside = h.inside } }

-- one list after another
pub stands_join : (s l : List ℕ) (p : ℕ) {m : List ℕ} {q r : ℕ} → Stands s p l q → Stands s q m r → Stands s p (l ++ m) r
stands_join s [] p {m} {q} {r} h k = let e : q ≡ p = let z = h.ends in omega arith in subst (λ (x : ℕ). Stands s x m r) e k
stands_join s (b ∷ l) p {m} {q} {r} h k =
    let f = stands_first s p h in
    subst (λ (x : ℕ). Stands s p (x ∷ l ++ m) r) f.byte (stands_more s p (stands_join s l (p + 1) f.rest k))

pub stands_split : (s l : List ℕ) (p : ℕ) {m : List ℕ} {r : ℕ} → Stands s p (l ++ m) r → (q : ℕ) × (Stands s p l q × Stands s q m r)
unfolding stretch
stands_split s [] p {m} {r} h = (p, (record { bytes_there = refl; ends = omega arith; inside = let e = h.ends in let i = h.inside in omega arith }, h))
stands_split s (b ∷ l) p {m} {r} h =
    let f = stands_first s p h in
    let rest = stands_split s l (p + 1) f.rest in
    (rest.0, (subst (λ (x : ℕ). Stands s p (x ∷ l) rest.0) f.byte (stands_more s p rest.1.0), rest.1.1))

-- the bytes from the one place to the other
pub stands_stretch : (s : List ℕ) {p q : ℕ} {l : List ℕ} → Stands s p l q → stretch s p (q - p) ≡ l
stands_stretch s {p} {q} {l} h =
    let n : q - p ≡ length l = let e = h.ends in omega arith in
    ap (stretch s p) n ∙ h.bytes_there
