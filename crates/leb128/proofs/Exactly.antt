-- The readings find exactly what the rules allow: the bytes at a place encode the number, and no other number.
-- Assumes nothing.
use Prim.Native.Nat.{ℕ, zero, suc, ◌+◌, ◌<◌, ◌≤◌}
use mathlib.Core.Path.{◌≡◌, refl, ap, subst}
use mathlib.Core.Logic.{◌⊎◌, inl, inr}
use mathlib.Core.Option.{Option}
use mathlib.Core.List.{List, [], ◌∷◌}
use lib.ListN.{length, get_or}
use lib.IntN.{ℤ}
use native.Mathlib.Omega.{arith}
use Rattle.refusal.specs.Refusals.{malformed_number, runs_past}
use Rattle.refusal.specs.Rows.{Found}
use Rattle.refusal.specs.Exact.{Exact, At, here, there}
use Rattle.refusal.proofs.Exact.{never, same, answer_exact, given_exact, bind_exact, either_exact, exact_iff, below, at_most, one_of}
use Rattle.word.specs.Bytes.{Stands}
use Rattle.word.proofs.Stands.{stands_one, stands_more, stands_first}
use Rattle.leb128.specs.Leb.{bytes_at, fifth, uleb_at, sleb_at, plus_one_at}
use Rattle.leb128.specs.Rules.{Groups, Bytes, Uleb, Sleb, PlusOneRule}

-- ---- the bytes of a number
Rule : ℕ → List ℕ → ℕ → Found (List ℕ) ℕ → Type 0
Rule n s p r = Stands s p r.item r.next × Groups n r.item

groups_one : {n b : ℕ} → b < 128 → Groups (suc n) (b ∷ [])
groups_one {n} {b} h = record { some_byte = omega arith; few = omega arith; goes_on = λ m p. absurd (omega arith); stops = go }
  where
    go : {k c : ℕ} → At (b ∷ []) k c → suc k ≡ 1 → c < 128
    go here e = h
    go {c = c} (there {k = k} x6) e = elim x6 [ ]

groups_more : {n b : ℕ} {l : List ℕ} → 128 ≤ b → Groups n l → Groups (suc n) (b ∷ l)
groups_more {n} {b} {l} h g = record { some_byte = omega arith; few = let z = g.few in omega arith; goes_on = on; stops = off }
  where
    on : {k c : ℕ} → At (b ∷ l) k c → suc k < suc (length l) → 128 ≤ c
    on here p = h
    on (there m) p = g.goes_on m (omega arith)

    off : {k c : ℕ} → At (b ∷ l) k c → suc k ≡ suc (length l) → c < 128
    off here p = absurd (let z = g.some_byte in omega arith)
    off (there m) p = g.stops m (omega arith)

groups_tail : {n b c : ℕ} {l : List ℕ} → Groups (suc n) (b ∷ c ∷ l) → Groups n (c ∷ l)
groups_tail g = record {
  some_byte = omega arith;
  few = let z = g.few in omega arith;
  goes_on = λ m p. g.goes_on (there m) (omega arith);
  stops = λ m p. g.stops (there m) (ap suc p);
}

bytes_exact : (n : ℕ) (s : List ℕ) (item p : ℕ) → Exact (bytes_at n s item p) (Rule n s p)
unfolding bytes_at Rule
bytes_exact zero s item p = record { sound = λ r e. absurd (never e); complete = λ r h. absurd (let a = h.1.some_byte in let b = h.1.few in omega arith) }
bytes_exact (suc n) s item p =
    exact_iff
    (given_exact (runs_past item) (below p (length s)) (either_exact (below (get_or s p 0) 128) (answer_exact (record { item = get_or s p 0 ∷ []; next = p + 1 }))
    (bind_exact (Rule n s (p + 1)) (λ (m r : Found (List ℕ) ℕ). record { item = get_or s p 0 ∷ m.item; next = m.next } ≡ r) (bytes_exact n s item (p + 1)) (λ m. answer_exact _))))
    (λ r h. joined r h.0 h.1)
    (λ r h. parted r.item r.next h.0 h.1)
  where
    Ways : Found (List ℕ) ℕ → Type 0
    Ways r =
        ((get_or s p 0 < 128) × (record { item = get_or s p 0 ∷ []; next = p + 1 } ≡ r))
        ⊎ ((get_or s p 0 < 128 → ⊥) × ((m : Found (List ℕ) ℕ) × (Rule n s (p + 1) m × (record { item = get_or s p 0 ∷ m.item; next = m.next } ≡ r))))

    joined : (r : Found (List ℕ) ℕ) → p < length s → Ways r → Rule (suc n) s p r
    joined r h (inl w) = subst (Rule (suc n) s p) w.1 (stands_one s p h, groups_one w.0)
    joined r h (inr w) = let high : 128 ≤ get_or s p 0 = let z = w.0 in omega arith in subst (Rule (suc n) s p) w.1.1.1 (stands_more s p w.1.1.0.0, groups_more high w.1.1.0.1)

    parted : (l : List ℕ) (q : ℕ) → Stands s p l q → Groups (suc n) l → (p < length s) × Ways (record { item = l; next = q })
    parted [] q h g = absurd (let z = g.some_byte in omega arith)
    parted (b ∷ []) q h g =
        let f = stands_first s p h in
        let e = f.rest.ends in
        let byte = f.byte in
        let low = g.stops here refl in
        (f.room, inl (omega arith, λ i. record { item = byte i ∷ []; next = go i }))
      where
        go : p + 1 ≡ q
        go = let e = h.ends in omega arith
    parted (b ∷ c ∷ l) q h g =
        let f = stands_first s p h in
        let byte = f.byte in
        let high = g.goes_on here (omega arith) in
        (f.room, inr (λ z. omega arith, (record { item = c ∷ l; next = q }, ((f.rest, groups_tail g), λ i. record { item = byte i ∷ c ∷ l; next = q }))))

pub number_exact : (s : List ℕ) (item p : ℕ) → Exact (bytes_at 5 s item p) (λ (r : Found (List ℕ) ℕ). Bytes s p r.item r.next)
unfolding Rule
number_exact s item p = exact_iff (bytes_exact 5 s item p) (λ r h. record { stands = h.0; groups = h.1 }) (λ r h. (h.stands, h.groups))

-- ---- the three numbers
pub uleb_exact : (s : List ℕ) (item p : ℕ) → Exact (uleb_at s item p) (Uleb s p)
unfolding uleb_at
uleb_exact s item p =
    exact_iff (bind_exact _ _ (number_exact s item p) (λ n. given_exact (malformed_number item) (at_most (fifth n.item) 0x0f) (answer_exact _)))
    (λ r h. subst (Uleb s p) h.1.1.1 (record { bs = h.0.item; bytes = h.1.0; fifth_byte = h.1.1.0; value = refl }))
    (λ r h. (record { item = h.bs; next = r.next }, (h.bytes, (h.fifth_byte, λ i. record { item = h.value i; next = r.next }))))

pub sleb_exact : (s : List ℕ) (item p : ℕ) → Exact (sleb_at s item p) (Sleb s p)
unfolding sleb_at
sleb_exact s item p =
    exact_iff (bind_exact _ _ (number_exact s item p) (λ n. given_exact (malformed_number item) (one_of (at_most (fifth n.item) 0x07) (at_most 0x78 (fifth n.item))) (answer_exact _)))
    (λ r h. subst (Sleb s p) h.1.1.1 (record { bs = h.0.item; bytes = h.1.0; fifth_byte = h.1.1.0; value = refl }))
    (λ r h. (record { item = h.bs; next = r.next }, (h.bytes, (h.fifth_byte, λ i. record { item = h.value i; next = r.next }))))

pub plus_one_exact : (s : List ℕ) (item p : ℕ) → Exact (plus_one_at s item p) (PlusOneRule s p)
unfolding plus_one_at
plus_one_exact s item p =
    exact_iff (bind_exact _ _ (uleb_exact s item p) (λ n. answer_exact _))
    (λ r h. subst (PlusOneRule s p) h.1.1 (record { number = h.0.item; uleb = h.1.0; value = refl }))
    (λ r h. (record { item = h.number; next = r.next }, (h.uleb, λ i. record { item = h.value i; next = r.next })))

-- any two readings of a place are equal
pub uleb_same : (s : List ℕ) (p : ℕ) (a b : Found ℕ ℕ) → Uleb s p a → Uleb s p b → a ≡ b
uleb_same s p = same (uleb_exact s 0 p)

pub sleb_same : (s : List ℕ) (p : ℕ) (a b : Found ℤ ℕ) → Sleb s p a → Sleb s p b → a ≡ b
sleb_same s p = same (sleb_exact s 0 p)

pub plus_one_same : (s : List ℕ) (p : ℕ) (a b : Found (Option ℕ) ℕ) → PlusOneRule s p a → PlusOneRule s p b → a ≡ b
plus_one_same s p = same (plus_one_exact s 0 p)
