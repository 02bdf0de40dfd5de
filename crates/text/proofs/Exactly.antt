-- The readings find exactly what the rule allows: the bytes at a place are the encoding of the units, and of no others.
-- Assumes nothing.
use Prim.Native.Nat.{ℕ, ◌+◌, ◌-◌, ◌/◌, ◌^◌, ◌<◌, ◌≤◌}
use mathlib.Core.Path.{◌≡◌, refl, ap, sym, subst, ◌∙◌}
use mathlib.Core.Logic.{◌⊎◌, inl, inr}
use mathlib.Core.List.{List, [], ◌∷◌}
use lib.ListN.{length, get_or, length-append}
use native.Mathlib.Omega.{arith}
use Rattle.refusal.specs.Refusals.{malformed_text, runs_past}
use Rattle.refusal.specs.Rows.{Found, Next, more, ends}
use Rattle.refusal.specs.Exact.{Exact, At, here, there, Ended, over, longer}
use Rattle.refusal.proofs.Exact.{same, answer_exact, given_exact, bind_exact, either_exact, exact_iff, below, at_most, equal, one_of}
use Rattle.refusal.proofs.Each.{at_below}
use Rattle.refusal.proofs.Rows.{Stepped, until_exact}
use Rattle.word.specs.Bytes.{stretch, Stands}
use Rattle.word.proofs.Stands.{stands_one, stands_first, stands_stretch, stands_join, stands_split}
use Rattle.leb128.specs.Rules.{Uleb}
use Rattle.leb128.proofs.Exactly.{uleb_exact}
use Rattle.text.specs.Units.{form, encode}
use Rattle.text.specs.Text.{unit2, unit3, two_at, three_at, wide_at, form_at, units_at, Text, string_at}
use Rattle.text.specs.Rules.{Units, StringRule}
use Rattle.text.proofs.Shapes.{Two, Three, Shape, in_one, in_two, in_three, shape, shape_form, shape_small, shape_some}

-- ---- lists of units
pub units_first : {u : ℕ} {us : List ℕ} → Units (u ∷ us) → u < 2 ^ 16
units_first h = h.each here

pub units_rest : {u : ℕ} {us : List ℕ} → Units (u ∷ us) → Units us
units_rest h = record { each = λ m. h.each (there m) }

units_none : Units []
units_none = record { each = λ m. absurd (let h = at_below m in omega arith) }

units_cons : {u : ℕ} {us : List ℕ} → u < 2 ^ 16 → Units us → Units (u ∷ us)
units_cons {u} {us} h g = record { each = go }
  where
    go : {k v : ℕ} → At (u ∷ us) k v → v < 2 ^ 16
    go here = h
    go (there m) = g.each m

-- ---- one form
-- a unit's form stands there, or the zero byte does
pub record Step (s : List ℕ) (p u q : ℕ) : Type 0 where
  pub small : u < 2 ^ 16
  pub stands : Stands s p (form u) q

pub record End (s : List ℕ) (p q : ℕ) : Type 0 where
  pub here_ends : p ≡ q
  pub room : q < length s
  pub closed : get_or s q 0 ≡ 0

module _ (s : List ℕ) (item p : ℕ) where
  abbrev a : ℕ
  a = get_or s p 0

  abbrev b : ℕ
  b = get_or s (p + 1) 0

  abbrev c : ℕ
  c = get_or s (p + 2) 0

  -- the tests, in their order
  abbrev InTwo : Next ℕ ℕ → Type 0
  InTwo r = (2 ≤ length s - p) × ((b / 64 ≡ 2) × (((0x80 ≤ unit2 a b) ⊎ (unit2 a b ≡ 0)) × (more (unit2 a b) (p + 2) ≡ r)))

  abbrev InThree : Next ℕ ℕ → Type 0
  InThree r = (3 ≤ length s - p) × ((b / 64 ≡ 2) × ((c / 64 ≡ 2) × ((0x800 ≤ unit3 a b c) × (more (unit3 a b c) (p + 3) ≡ r))))

  abbrev InOne : Next ℕ ℕ → Type 0
  InOne r = ((0 < a) × (more a (p + 1) ≡ r)) ⊎ ((0 < a → ⊥) × (ends p ≡ r))

  abbrev Tests : Next ℕ ℕ → Type 0
  Tests r = (p < length s) × (((a < 0x80) × InOne r) ⊎ ((a < 0x80 → ⊥) × (((a / 32 ≡ 6) × InTwo r) ⊎ ((a / 32 ≡ 6 → ⊥) × ((a / 16 ≡ 14) × InThree r)))))

  tests_exact : Exact (form_at s item p) Tests
  unfolding form_at wide_at two_at three_at
  tests_exact =
      given_exact (runs_past item) (below p (length s))
      (either_exact (below a 0x80) (either_exact (below 0 a) (answer_exact _) (answer_exact _))
      (either_exact (equal (a / 32) 6)
      (given_exact (runs_past item) (at_most 2 (length s - p)) (given_exact (malformed_text item) (equal (b / 64) 2) (given_exact (malformed_text item) (one_of (at_most 0x80 (unit2 a b)) (equal (unit2 a b) 0)) (answer_exact _))))
      (given_exact (malformed_text item) (equal (a / 16) 14)
      (given_exact (runs_past item) (at_most 3 (length s - p)) (given_exact (malformed_text item) (equal (b / 64) 2) (given_exact (malformed_text item) (equal (c / 64) 2) (given_exact (malformed_text item) (at_most 0x800 (unit3 a b c)) (answer_exact _))))))))

  -- the bytes at p
  stands_two : 2 ≤ length s - p → Stands s p (a ∷ b ∷ []) (p + 2)
  unfolding stretch
  stands_two h = record { bytes_there = refl; ends = refl; inside = omega arith }

  stands_three : 3 ≤ length s - p → Stands s p (a ∷ b ∷ c ∷ []) (p + 3)
  unfolding stretch
  stands_three h = let e : p + 1 + 1 ≡ p + 2 = omega arith in record { bytes_there = λ i. a ∷ b ∷ get_or s (e i) 0 ∷ []; ends = refl; inside = omega arith }

  there_two : {x y q : ℕ} → Stands s p (x ∷ y ∷ []) q → (a ≡ x) × (b ≡ y)
  there_two h = let f = stands_first s p h in (f.byte, (stands_first s (p + 1) f.rest).byte)

  there_three : {x y z q : ℕ} → Stands s p (x ∷ y ∷ z ∷ []) q → (a ≡ x) × ((b ≡ y) × (c ≡ z))
  there_three {z = z} h =
      let f = stands_first s p h in
      let g = stands_first s (p + 1) f.rest in
      let e : p + 1 + 1 ≡ p + 2 = omega arith in
      (f.byte, (g.byte, subst (λ (n : ℕ). get_or s n 0 ≡ z) e (stands_first s (p + 1 + 1) g.rest).byte))

  -- what the tests say of them
  abbrev Is : Next ℕ ℕ → Type 0
  Is r = Stepped (form_at s item) (Step s) (End s) p r

  shaped : {u q : ℕ} {l : List ℕ} → Shape u l → Stands s p l q → Is (more u q)
  shaped {u} {q} {l} h k = record { small = shape_small h; stands = subst (λ (x : List ℕ). Stands s p x q) (sym (shape_form h)) k }

  joined_one : (r : Next ℕ ℕ) → p < length s → a < 0x80 → InOne r → Is r
  joined_one r h l (inl w) = subst Is w.1 (shaped (in_one w.0 l) (stands_one s p h))
  joined_one r h l (inr w) = subst Is w.1 (record { here_ends = refl; room = h; closed = let z = w.0 in omega arith })

  joined_two : (r : Next ℕ ℕ) → a / 32 ≡ 6 → InTwo r → Is r
  joined_two r h w =
      let t : Two (unit2 a b) a b = record { head = h; second = w.1.0; shortest = w.1.1.0; value = refl } in
      subst Is w.1.1.1 (shaped (in_two t) (stands_two w.0))

  joined_three : (r : Next ℕ ℕ) → a / 16 ≡ 14 → InThree r → Is r
  joined_three r h w =
      let t : Three (unit3 a b c) a b c = record { head = h; second = w.1.0; third = w.1.1.0; shortest = w.1.1.1.0; value = refl } in
      subst Is w.1.1.1.1 (shaped (in_three t) (stands_three w.0))

  joined : (r : Next ℕ ℕ) → Tests r → Is r
  joined r h = go h.1
    where
      wide : ((a / 32 ≡ 6) × InTwo r) ⊎ ((a / 32 ≡ 6 → ⊥) × ((a / 16 ≡ 14) × InThree r)) → Is r
      wide (inl w) = joined_two r w.0 w.1
      wide (inr w) = joined_three r w.1.0 w.1.1

      go : ((a < 0x80) × InOne r) ⊎ ((a < 0x80 → ⊥) × (((a / 32 ≡ 6) × InTwo r) ⊎ ((a / 32 ≡ 6 → ⊥) × ((a / 16 ≡ 14) × InThree r)))) → Is r
      go (inl w) = joined_one r h.0 w.0 w.1
      go (inr w) = wide w.1

  parted_more : {u q : ℕ} {l : List ℕ} → Shape u l → Stands s p l q → Tests (more u q)
  parted_more {u} {q} (in_one h k) t =
      let f = stands_first s p t in
      let e = f.byte in
      let n : p + 1 ≡ q = let z = t.ends in omega arith in
      (f.room, inl (omega arith, inl (omega arith, λ i. more (e i) (n i))))
  parted_more {u} {q} (in_two {a = x} {b = y} h) t =
      let e = there_two t in
      let v : unit2 a b ≡ u = omega arith in
      let room : 2 ≤ length s - p = let z = t.ends in let w = t.inside in omega arith in
      let short = subst (λ (w : ℕ). (0x80 ≤ w) ⊎ (w ≡ 0)) (sym v) h.shortest in
      (omega arith, inr (λ z. omega arith, inl (omega arith, (room, (omega arith, (short, λ i. more (v i) (t.ends i)))))))
  parted_more {u} {q} (in_three {a = x} {b = y} {c = z} h) t =
      let e = there_three t in
      let v : unit3 a b c ≡ u = omega arith in
      let room : 3 ≤ length s - p = let z = t.ends in let w = t.inside in omega arith in
      (omega arith, inr (λ z. omega arith, inr (λ z. omega arith, (omega arith, (room, (omega arith, (omega arith, (omega arith, λ i. more (v i) (t.ends i)))))))))

  parted : (r : Next ℕ ℕ) → Is r → Tests r
  parted (more u q) h = parted_more (shape u h.small) h.stands
  parted (ends q) h =
      let e = h.here_ends in
      let z : a ≡ 0 = ap (λ (n : ℕ). get_or s n 0) e ∙ h.closed in
      let room = h.room in
      (omega arith, inl (omega arith, inr (λ w. omega arith, ap ends e)))

  pub form_exact : Exact (form_at s item p) (Stepped (form_at s item) (Step s) (End s) p)
  form_exact = exact_iff tests_exact joined parted

-- ---- all forms up to the zero byte
-- the encoding of these units stands at p, and after it the zero byte
pub record Spelt (s : List ℕ) (p : ℕ) (us : List ℕ) (zero : ℕ) : Type 0 where
  pub units : Units us
  pub stands : Stands s p (encode us) zero
  pub room : zero < length s
  pub closed : get_or s zero 0 ≡ 0

module _ (s : List ℕ) where
  spelt_sound : {p z : ℕ} {us : List ℕ} → Ended (Step s) (End s) p us z → Spelt s p us z
  unfolding encode stretch
  spelt_sound {p} {z} (over e) =
      let h = e.here_ends in
      let r = e.room in
      record { units = units_none; stands = record { bytes_there = refl; ends = omega arith; inside = omega arith }; room = r; closed = e.closed }
  spelt_sound {p} (longer {a = u} {l = us} h k) =
      let rest = spelt_sound k in
      record { units = units_cons h.small rest.units; stands = stands_join s (form u) p h.stands rest.stands; room = rest.room; closed = rest.closed }

  spelt_complete : (us : List ℕ) (p z : ℕ) → Spelt s p us z → Ended (Step s) (End s) p us z
  unfolding encode
  spelt_complete [] p z h =
      let e : p ≡ z = let n = h.stands.ends in omega arith in
      over (record { here_ends = e; room = h.room; closed = h.closed })
  spelt_complete (u ∷ us) p z h =
      let parts = stands_split s (form u) p h.stands in
      let small = units_first h.units in
      longer (record { small = small; stands = parts.1.0 })
      (spelt_complete us parts.0 z (record { units = units_rest h.units; stands = parts.1.1; room = h.room; closed = h.closed }))

-- a unit takes a byte at least
encode_long : (us : List ℕ) → Units us → length us ≤ length (encode us)
unfolding encode
encode_long [] h = omega arith
encode_long (u ∷ us) h =
    omega (arith, length-append (form u) (encode us), shape_some (shape u (units_first h)), encode_long us (units_rest h))

pub units_exact : (s : List ℕ) (item p : ℕ) → Exact (units_at s item p) (λ (r : Found (List ℕ) ℕ). Spelt s p r.item r.next)
unfolding units_at
units_exact s item p =
    exact_iff (until_exact (form_at s item) (Step s) (End s) (form_exact s item) (runs_past item) (length s - p) p)
    (λ r h. spelt_sound s h.0)
    (λ r h. (spelt_complete s r.item p r.next h, enough r h))
  where
    enough : (r : Found (List ℕ) ℕ) → Spelt s p r.item r.next → length r.item < length s - p
    enough r h = let e = h.stands.ends in let room = h.room in omega (arith, encode_long r.item h.units)

-- ---- the string data item
pub string_exact : (s : List ℕ) (item : ℕ) → Exact (string_at s item) (StringRule s item)
unfolding string_at
string_exact s item =
    exact_iff
    (bind_exact _ _ (uleb_exact s item item) (λ n. bind_exact _ _ (units_exact s item n.next) (λ u. given_exact (malformed_text item) (equal (length u.item) n.item) (answer_exact _))))
    (λ t h. found t h.0 h.1.0 h.1.1.0 h.1.1.1.0 h.1.1.1.1)
    (λ t h. (record { item = h.stored; next = t.start }, (h.number, (record { item = t.units; next = h.zero }, (spelt t h, (h.count, λ i. record { start = t.start; bytes = stands_stretch s h.stands i; units = t.units }))))))
  where
    found : (t : Text) (n : Found ℕ ℕ) → Uleb s item n → (u : Found (List ℕ) ℕ) → Spelt s n.next u.item u.next
        → (length u.item ≡ n.item) × (record { start = n.next; bytes = stretch s n.next (u.next - n.next); units = u.item } ≡ t) → StringRule s item t
    found t n g u h k =
        let e = sym (stands_stretch s h.stands) in
        subst (StringRule s item) k.1
        (record { stored = n.item; zero = u.next; number = g; units = h.units; bytes = e; stands = subst (λ (l : List ℕ). Stands s n.next l u.next) e h.stands; room = h.room; closed = h.closed; count = k.0 })

    spelt : (t : Text) (h : StringRule s item t) → Spelt s t.start t.units h.zero
    spelt t h = record { units = h.units; stands = subst (λ (l : List ℕ). Stands s t.start l h.zero) (sym h.bytes) h.stands; room = h.room; closed = h.closed }

-- two texts read at one place are equal
pub string_same : (s : List ℕ) (item : ℕ) (t u : Text) → StringRule s item t → StringRule s item u → t ≡ u
string_same s item = same (string_exact s item)
