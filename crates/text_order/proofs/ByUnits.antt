-- The order of two texts' bytes by their keys is the order of their units; and equal bytes are equal units.
-- Assumes nothing.
use Prim.Native.Nat.{ℕ, ◌+◌, ◌<◌, ◌≤◌}
use mathlib.Core.Path.{◌≡◌, refl, ap, sym, ◌∙◌}
use mathlib.Core.Logic.{◌↔◌, ◌⊎◌, inl, inr}
use mathlib.Core.Bool.{Bool, true, false, cond}
use mathlib.Core.List.{List, [], ◌∷◌, ◌++◌}
use lib.Dec.{ltb, eqb}
use borrow.Author.Tests.{ltb-true, ltb-false, lt-ltb}
use native.Mathlib.Omega.{arith}
use Rattle.refusal.specs.Exact.{Decides}
use Rattle.text.specs.Units.{form, encode}
use Rattle.text.specs.Text.{Text}
use Rattle.text.specs.Rules.{Units, StringRule}
use Rattle.text_order.specs.Order.{compared, key, keys, by_key, is_equal}
use Rattle.std.specs.declared.cmp.Ordering.{Ordering}
use Rattle.std.specs.declared.cmp.Ordering.TheVariants.{Less, Equal, Greater}
use Rattle.text.proofs.Shapes.{Two, Three, Shape, in_one, in_two, in_three, shape}
use Rattle.text_order.proofs.Comparing.{key_zero, key_other, key_once, same_first}
use Rattle.text.proofs.Exactly.{units_first, units_rest, string_exact}
use Rattle.text.proofs.Laws.{Lies}
use Rattle.word.specs.Bytes.{part}
use Rattle.text_order.proofs.Ordered.{same_decides}

-- ---- the two sides changed
abbrev turned : Ordering → Ordering
turned Less = Greater
turned Equal = Equal
turned Greater = Less

turned_order : (x y : List ℕ) → compared y x ≡ turned (compared x y)
unfolding compared
turned_order [] [] = refl
turned_order [] (b ∷ y) = refl
turned_order (a ∷ x) [] = refl
turned_order (a ∷ x) (b ∷ y) = go (turned_order x y) (ltb a b) refl (ltb b a) refl
  where
    go : compared y x ≡ turned (compared x y) → (s : Bool) → ltb a b ≡ s → (t : Bool) → ltb b a ≡ t
        → cond t Less (cond s Greater (compared y x)) ≡ turned (cond s Less (cond t Greater (compared x y)))
    go ih true p true q = absurd (omega (arith, ltb-true a b p, ltb-true b a q))
    go ih true p false q = refl
    go ih false p true q = refl
    go ih false p false q = ih

turned_key : (x y : List ℕ) → by_key y x ≡ turned (by_key x y)
unfolding by_key
turned_key x y = turned_order (keys x) (keys y)

-- ---- equal bytes
keys_once : (x y : List ℕ) → keys x ≡ keys y → x ≡ y
unfolding keys
keys_once [] [] e = refl
keys_once [] (b ∷ y) e = absurd (let z : ◌≡◌ {A = ℕ} 0 1 = cc in omega arith)
keys_once (a ∷ x) [] e = absurd (let z : ◌≡◌ {A = ℕ} 0 1 = cc in omega arith)
keys_once (a ∷ x) (b ∷ y) e =
    let first : key a ≡ key b = cc in
    let rest : keys x ≡ keys y = cc in
    λ i. key_once a b first i ∷ keys_once x y rest i

-- `Equal` says exactly that the bytes are equal, whether they are a text's or not
pub same_bytes : (x y : List ℕ) → Decides (is_equal (by_key x y)) (x ≡ y)
unfolding by_key
same_bytes x y = let d = same_decides (keys x) (keys y) in record { sound = λ t. keys_once x y (d.sound t); complete = λ e. d.complete (ap keys e) }

same_front : (l x y : List ℕ) → by_key (l ++ x) (l ++ y) ≡ by_key x y
same_front [] x y = refl
same_front (a ∷ l) x y = same_first a a (l ++ x) (l ++ y) refl ∙ same_front l x y

-- ---- a lower unit's form comes first
lower_first : (a b : ℕ) (x y : List ℕ) → key a < key b → by_key (a ∷ x) (b ∷ y) ≡ Less
unfolding by_key keys compared
lower_first a b x y h = rw (lt-ltb (key a) (key b) h)

key_most : (b : ℕ) → key b ≤ b + 1
unfolding key
key_most b = go (eqb b 0xc0)
  where
    go : (t : Bool) → cond t 0 (b + 1) ≤ b + 1
    go true = omega arith
    go false = omega arith

-- by a byte, neither of them c0; or else they are alike
by_byte : (a b : ℕ) (x y : List ℕ) → (a ≡ 0xc0 → ⊥) → (b ≡ 0xc0 → ⊥) → a ≤ b → (a ≡ b → by_key x y ≡ Less) → by_key (a ∷ x) (b ∷ y) ≡ Less
by_byte a b x y p q h k = go (ltb a b) refl
  where
    go : (v : Bool) → ltb a b ≡ v → by_key (a ∷ x) (b ∷ y) ≡ Less
    go true t = let l = ltb-true a b t in lower_first a b x y (omega (arith, key_other a p, key_other b q))
    go false t = let e : a ≡ b = omega (arith, ltb-false a b t) in same_first a b x y e ∙ k e

-- c0 80 is the only form of two bytes for less than 80
two_high : {u a b : ℕ} → Two u a b → 0 < u → 0x80 ≤ u
two_high {u} t h = go t.shortest
  where
    go : (0x80 ≤ u) ⊎ (u ≡ 0) → 0x80 ≤ u
    go (inl p) = p
    go (inr p) = absurd (omega arith)

lower_zero : (a b : ℕ) (m n : List ℕ) → a ≡ 0xc0 → (b ≡ 0xc0 → ⊥) → by_key (a ∷ m) (b ∷ n) ≡ Less
lower_zero a b m n e q = lower_first a b m n (omega (arith, key_zero a e, key_other b q))

module _ (x y : List ℕ) where
  lower_two : {u v a b c d : ℕ} → Two u a b → Two v c d → u < v → by_key (a ∷ b ∷ x) (c ∷ d ∷ y) ≡ Less
  lower_two {u} {v} {a} {b} {c} {d} s t h = go s.shortest (two_high t (omega arith))
    where
      go : (0x80 ≤ u) ⊎ (u ≡ 0) → 0x80 ≤ v → by_key (a ∷ b ∷ x) (c ∷ d ∷ y) ≡ Less
      go (inl w) big =
          by_byte a c (b ∷ x) (d ∷ y) (λ e. omega arith) (λ e. omega arith) (omega arith)
          (λ e. by_byte b d x y (λ f. omega arith) (λ f. omega arith) (omega arith) (λ f. absurd (omega arith)))
      go (inr w) big = lower_zero a c (b ∷ x) (d ∷ y) (omega arith) (λ e. omega arith)

  lower_three : {u v a b c d e f : ℕ} → Three u a b c → Three v d e f → u < v → by_key (a ∷ b ∷ c ∷ x) (d ∷ e ∷ f ∷ y) ≡ Less
  lower_three {u} {v} {a} {b} {c} {d} {e} {f} s t h =
      by_byte a d (b ∷ c ∷ x) (e ∷ f ∷ y) (λ z. omega arith) (λ z. omega arith) (omega arith)
      (λ z. by_byte b e (c ∷ x) (f ∷ y) (λ w. omega arith) (λ w. omega arith) (omega arith)
      (λ w. by_byte c f x y (λ q. omega arith) (λ q. omega arith) (omega arith) (λ q. absurd (omega arith))))

  lower : {u v : ℕ} {l m : List ℕ} → Shape u l → Shape v m → u < v → by_key (l ++ x) (m ++ y) ≡ Less
  lower {u} {v} (in_one p q) (in_one r s) h = by_byte u v x y (λ e. omega arith) (λ e. omega arith) (omega arith) (λ e. absurd (omega arith))
  lower {u} {v} (in_one p q) (in_two {a = a} {b = b} t) h = let big = two_high t (omega arith) in by_byte u a x (b ∷ y) (λ e. omega arith) (λ e. omega arith) (omega arith) (λ e. absurd (omega arith))
  lower {u} {v} (in_one p q) (in_three {a = a} {b = b} {c = c} t) h = by_byte u a x (b ∷ c ∷ y) (λ e. omega arith) (λ e. omega arith) (omega arith) (λ e. absurd (omega arith))
  lower {u} {v} (in_two {a = a} {b = b} s) (in_one p q) h = go s.shortest
    where
      go : (0x80 ≤ u) ⊎ (u ≡ 0) → by_key (a ∷ b ∷ x) (v ∷ y) ≡ Less
      go (inl w) = absurd (omega arith)
      go (inr w) = lower_zero a v (b ∷ x) y (omega arith) (λ e. omega arith)
  lower (in_two s) (in_two t) h = lower_two s t h
  lower {u} {v} (in_two {a = a} {b = b} s) (in_three {a = c} {b = d} {c = e} t) h = lower_first a c (b ∷ x) (d ∷ e ∷ y) (omega (arith, key_most a, key_other c (λ z. omega arith)))
  lower (in_three s) (in_one p q) h = absurd (let w = s.shortest in omega arith)
  lower (in_three s) (in_two t) h = absurd (let w = s.shortest in let z = t.value in omega arith)
  lower (in_three s) (in_three t) h = lower_three s t h

-- ---- lists of units
none_first : by_key [] [] ≡ Equal
unfolding by_key keys compared
none_first = refl

ended_first : {v : ℕ} {m : List ℕ} → Shape v m → (y : List ℕ) → by_key [] (m ++ y) ≡ Less
unfolding by_key keys compared
ended_first (in_one p q) y = refl
ended_first (in_two t) y = refl
ended_first (in_three t) y = refl

pub order_by_units : (us vs : List ℕ) → Units us → Units vs → by_key (encode us) (encode vs) ≡ compared us vs
unfolding encode compared
order_by_units [] [] g h = none_first
order_by_units [] (v ∷ vs) g h = ended_first (shape v (units_first h)) (encode vs)
order_by_units (u ∷ us) [] g h = turned_key [] (form u ++ encode us) ∙ ap turned (ended_first (shape u (units_first g)) (encode us))
order_by_units (u ∷ us) (v ∷ vs) g h = go (order_by_units us vs (units_rest g) (units_rest h)) (ltb u v) refl (ltb v u) refl
  where
    go : by_key (encode us) (encode vs) ≡ compared us vs → (s : Bool) → ltb u v ≡ s → (t : Bool) → ltb v u ≡ t
        → by_key (form u ++ encode us) (form v ++ encode vs) ≡ cond s Less (cond t Greater (compared us vs))
    go ih true p t q = lower (encode us) (encode vs) (shape u (units_first g)) (shape v (units_first h)) (ltb-true u v p)
    go ih false p true q = turned_key (form v ++ encode vs) (form u ++ encode us) ∙ ap turned (lower (encode vs) (encode us) (shape v (units_first h)) (shape u (units_first g)) (ltb-true v u q))
    go ih false p false q =
        let e : u ≡ v = omega (arith, ltb-false u v p, ltb-false v u q) in
        ap (λ (w : ℕ). by_key (form w ++ encode us) (form v ++ encode vs)) e ∙ same_front (form v) (encode us) (encode vs) ∙ ih

-- equal bytes exactly where equal units
pub encode_once : (us vs : List ℕ) → Units us → Units vs → (encode us ≡ encode vs) ↔ (us ≡ vs)
encode_once us vs g h =
    (λ e. (same_decides us vs).sound (ap is_equal (sym (order_by_units us vs g h)) ∙ (same_bytes (encode us) (encode vs)).complete e), λ e. ap encode e)

-- the same of two texts, each in a file of its own
module _ {s r : List ℕ} {i j : ℕ} {t u : Text} (h : StringRule s i t) (k : StringRule r j u) where
  pub order_of_texts : by_key t.bytes u.bytes ≡ compared t.units u.units
  order_of_texts = (λ i. by_key (sym h.bytes i) (sym k.bytes i)) ∙ order_by_units t.units u.units h.units k.units

  pub texts_once : (t.bytes ≡ u.bytes) ↔ (t.units ≡ u.units)
  texts_once =
      let both = encode_once t.units u.units h.units k.units in
      (λ e. both.0 (h.bytes ∙ e ∙ sym k.bytes), λ e. sym h.bytes ∙ both.1 e ∙ k.bytes)

-- the order of two texts' bytes, where they lie, is the order of their units
pub lies_order : {s r : List ℕ} {i j p q m n u v : ℕ} (h : Lies s i p m u) (k : Lies r j q n v) → by_key (part s p m) (part r q n) ≡ compared h.text.units k.text.units
lies_order {s} {r} {i} {j} h k =
    (λ x. by_key (sym h.bytes_are x) (sym k.bytes_are x))
    ∙ order_of_texts ((string_exact s i).sound h.text h.read) ((string_exact r j).sound k.text k.read)
