-- What the functions' proofs cite: the ways through the table, by a letter and by a kind.
-- Assumes nothing.
use Prim.Native.Nat.{ℕ, ◌<◌, ◌≤◌}
use mathlib.Core.Path.{◌≡◌, refl, ap, sym, ◌∙◌}
use mathlib.Core.Bool.{Bool, true, false, cond, ◌&&◌}
use mathlib.Core.List.{List, [], ◌∷◌}
use lib.ListN.{length, get_or}
use lib.Dec.{eqb}
use lib.IntN.{pos}
use lib.Ieee.{of_bits, binary32, binary64}
use borrow.Author.Rules.{rules}
use borrow.Author.Tests.{le-leb, lt-leb, eq-eqb, ne_eqb}
use native.Mathlib.Omega.{arith}
use Rattle.decoded_value.specs.Shown.{Shown, is, integer, natural, floating, nothing, truth}
use Rattle.static_kinds.specs.Kinds.{TextKind, takes_kind, eight, other_text, same_bytes, row_of, kind_called, unset_of, default, suits, fits, row_by, unset_by}

-- ---- the row of a text, by the eight comparisons
abbrev row : Bool → Bool → Bool → Bool → Bool → Bool → Bool → Bool → TextKind
row z b s c i j f d =
    cond z (takes_kind (0x5a ∷ []) 0x1f (truth false))
    (cond b (takes_kind (0x42 ∷ []) 0x00 (integer (pos 0)))
    (cond s (takes_kind (0x53 ∷ []) 0x02 (integer (pos 0)))
    (cond c (takes_kind (0x43 ∷ []) 0x03 (natural 0))
    (cond i (takes_kind (0x49 ∷ []) 0x04 (integer (pos 0)))
    (cond j (takes_kind (0x4a ∷ []) 0x06 (integer (pos 0)))
    (cond f (takes_kind (0x46 ∷ []) 0x10 (floating 0 (of_bits binary32 0)))
    (cond d (takes_kind (0x44 ∷ []) 0x11 (floating 0 (of_bits binary64 0))) other_text)))))))

kind_by : (text : List ℕ) {z b s c i j f d : Bool}
    → same_bytes text (0x5a ∷ []) ≡ z → same_bytes text (0x42 ∷ []) ≡ b → same_bytes text (0x53 ∷ []) ≡ s → same_bytes text (0x43 ∷ []) ≡ c → same_bytes text (0x49 ∷ []) ≡ i → same_bytes text (0x4a ∷ []) ≡ j → same_bytes text (0x46 ∷ []) ≡ f → same_bytes text (0x44 ∷ []) ≡ d
    → (row z b s c i j f d).kind ≡ kind_called text
unfolding kind_called row_of eight
kind_by text h1 h2 h3 h4 h5 h6 h7 h8 = λ k. (row (sym h1 k) (sym h2 k) (sym h3 k) (sym h4 k) (sym h5 k) (sym h6 k) (sym h7 k) (sym h8 k)).kind

-- ---- a text of one letter
is_letter : (b x : ℕ) → b ≡ x → same_bytes (b ∷ []) (x ∷ []) ≡ true
unfolding same_bytes
is_letter b x e = ap (λ (t : Bool). t && true) (eq-eqb b x e)

no_letter : (b x : ℕ) → (b ≡ x → ⊥) → same_bytes (b ∷ []) (x ∷ []) ≡ false
unfolding same_bytes
no_letter b x n = ap (λ (t : Bool). t && true) (ne_eqb b x n)

module _ (b : ℕ) where
  pub letter_z : b ≡ 0x5a → 0x1f ≡ kind_called (b ∷ [])
  letter_z e = kind_by (b ∷ []) (is_letter b 0x5a e) refl refl refl refl refl refl refl

  module _ (not-z : b ≡ 0x5a → ⊥) where
    pub letter_b : b ≡ 0x42 → 0x00 ≡ kind_called (b ∷ [])
    letter_b e = kind_by (b ∷ []) (no_letter b 0x5a not-z) (is_letter b 0x42 e) refl refl refl refl refl refl

    module _ (not-b : b ≡ 0x42 → ⊥) where
      pub letter_s : b ≡ 0x53 → 0x02 ≡ kind_called (b ∷ [])
      letter_s e = kind_by (b ∷ []) (no_letter b 0x5a not-z) (no_letter b 0x42 not-b) (is_letter b 0x53 e) refl refl refl refl refl

      module _ (not-s : b ≡ 0x53 → ⊥) where
        pub letter_c : b ≡ 0x43 → 0x03 ≡ kind_called (b ∷ [])
        letter_c e = kind_by (b ∷ []) (no_letter b 0x5a not-z) (no_letter b 0x42 not-b) (no_letter b 0x53 not-s) (is_letter b 0x43 e) refl refl refl refl

        module _ (not-c : b ≡ 0x43 → ⊥) where
          pub letter_i : b ≡ 0x49 → 0x04 ≡ kind_called (b ∷ [])
          letter_i e = kind_by (b ∷ []) (no_letter b 0x5a not-z) (no_letter b 0x42 not-b) (no_letter b 0x53 not-s) (no_letter b 0x43 not-c) (is_letter b 0x49 e) refl refl refl

          module _ (not-i : b ≡ 0x49 → ⊥) where
            pub letter_j : b ≡ 0x4a → 0x06 ≡ kind_called (b ∷ [])
            letter_j e = kind_by (b ∷ []) (no_letter b 0x5a not-z) (no_letter b 0x42 not-b) (no_letter b 0x53 not-s) (no_letter b 0x43 not-c) (no_letter b 0x49 not-i) (is_letter b 0x4a e) refl refl

            module _ (not-j : b ≡ 0x4a → ⊥) where
              pub letter_f : b ≡ 0x46 → 0x10 ≡ kind_called (b ∷ [])
              letter_f e = kind_by (b ∷ []) (no_letter b 0x5a not-z) (no_letter b 0x42 not-b) (no_letter b 0x53 not-s) (no_letter b 0x43 not-c) (no_letter b 0x49 not-i) (no_letter b 0x4a not-j) (is_letter b 0x46 e) refl

              module _ (not_f : b ≡ 0x46 → ⊥) where
                pub letter_d : b ≡ 0x44 → 0x11 ≡ kind_called (b ∷ [])
                letter_d e = kind_by (b ∷ []) (no_letter b 0x5a not-z) (no_letter b 0x42 not-b) (no_letter b 0x53 not-s) (no_letter b 0x43 not-c) (no_letter b 0x49 not-i) (no_letter b 0x4a not-j) (no_letter b 0x46 not_f) (is_letter b 0x44 e)

                pub letter_other : (b ≡ 0x44 → ⊥) → 0x1e ≡ kind_called (b ∷ [])
                letter_other not-d = kind_by (b ∷ []) (no_letter b 0x5a not-z) (no_letter b 0x42 not-b) (no_letter b 0x53 not-s) (no_letter b 0x43 not-c) (no_letter b 0x49 not-i) (no_letter b 0x4a not-j) (no_letter b 0x46 not_f) (no_letter b 0x44 not-d)

-- ---- a text, by its length
pub one_letter : (text : List ℕ) {k : ℕ} → length text ≡ 1 → k ≡ kind_called (get_or text 0 0 ∷ []) → k ≡ kind_called text
one_letter [] l e = absurd (omega arith)
one_letter (a ∷ []) l e = e
one_letter (a ∷ b ∷ y) l e = absurd (omega arith)

longer : (a b x : ℕ) (y : List ℕ) → same_bytes (a ∷ b ∷ y) (x ∷ []) ≡ false
unfolding same_bytes
longer a b x y = go (eqb a x)
  where
    go : (t : Bool) → (t && false) ≡ false
    go true = refl
    go false = refl

pub not_one : (text : List ℕ) → (length text ≡ 1 → ⊥) → 0x1e ≡ kind_called text
unfolding kind_called row_of eight same_bytes
not_one [] l = refl
not_one (a ∷ []) l = absurd (l refl)
not_one (a ∷ b ∷ y) l = kind_by (a ∷ b ∷ y) (longer a b 0x5a y) (longer a b 0x42 y) (longer a b 0x53 y) (longer a b 0x43 y) (longer a b 0x49 y) (longer a b 0x4a y) (longer a b 0x46 y) (longer a b 0x44 y)

pub some_byte : (text : List ℕ) → length text ≡ 1 → 0 < length text
some_byte text e = omega arith

-- ---- the zero, false or null of a kind
module _ (k : ℕ) where
  pub unset_boolean : k ≡ 0x1f → is 0x1f (truth false) ≡ unset_by k
  unfolding unset_by row_by eight
  unset_boolean e = rw (eq-eqb k 0x1f e)

  module _ (z : k ≡ 0x1f → ⊥) where
    pub unset_byte : k ≡ 0x00 → is 0x00 (integer (pos 0)) ≡ unset_by k
    unfolding unset_by row_by eight
    unset_byte e = rw (ne_eqb k 0x1f z, eq-eqb k 0x00 e)

    module _ (y : k ≡ 0x00 → ⊥) where
      pub unset_short : k ≡ 0x02 → is 0x02 (integer (pos 0)) ≡ unset_by k
      unfolding unset_by row_by eight
      unset_short e = rw (ne_eqb k 0x1f z, ne_eqb k 0x00 y, eq-eqb k 0x02 e)

      module _ (x : k ≡ 0x02 → ⊥) where
        pub unset_char : k ≡ 0x03 → is 0x03 (natural 0) ≡ unset_by k
        unfolding unset_by row_by eight
        unset_char e = rw (ne_eqb k 0x1f z, ne_eqb k 0x00 y, ne_eqb k 0x02 x, eq-eqb k 0x03 e)

        module _ (w : k ≡ 0x03 → ⊥) where
          pub unset_int : k ≡ 0x04 → is 0x04 (integer (pos 0)) ≡ unset_by k
          unfolding unset_by row_by eight
          unset_int e = rw (ne_eqb k 0x1f z, ne_eqb k 0x00 y, ne_eqb k 0x02 x, ne_eqb k 0x03 w, eq-eqb k 0x04 e)

          module _ (v : k ≡ 0x04 → ⊥) where
            pub unset_long : k ≡ 0x06 → is 0x06 (integer (pos 0)) ≡ unset_by k
            unfolding unset_by row_by eight
            unset_long e = rw (ne_eqb k 0x1f z, ne_eqb k 0x00 y, ne_eqb k 0x02 x, ne_eqb k 0x03 w, ne_eqb k 0x04 v, eq-eqb k 0x06 e)

            module _ (u : k ≡ 0x06 → ⊥) where
              pub unset_float : k ≡ 0x10 → is 0x10 (floating 0 (of_bits binary32 0)) ≡ unset_by k
              unfolding unset_by row_by eight
              unset_float e = rw (ne_eqb k 0x1f z, ne_eqb k 0x00 y, ne_eqb k 0x02 x, ne_eqb k 0x03 w, ne_eqb k 0x04 v, ne_eqb k 0x06 u, eq-eqb k 0x10 e)

              module _ (t : k ≡ 0x10 → ⊥) where
                pub unset_double : k ≡ 0x11 → is 0x11 (floating 0 (of_bits binary64 0)) ≡ unset_by k
                unfolding unset_by row_by eight
                unset_double e = rw (ne_eqb k 0x1f z, ne_eqb k 0x00 y, ne_eqb k 0x02 x, ne_eqb k 0x03 w, ne_eqb k 0x04 v, ne_eqb k 0x06 u, ne_eqb k 0x10 t, eq-eqb k 0x11 e)

                pub unset_null : (k ≡ 0x11 → ⊥) → is 0x1e nothing ≡ unset_by k
                unfolding unset_by row_by eight
                unset_null s = rw (ne_eqb k 0x1f z, ne_eqb k 0x00 y, ne_eqb k 0x02 x, ne_eqb k 0x03 w, ne_eqb k 0x04 v, ne_eqb k 0x06 u, ne_eqb k 0x10 t, ne_eqb k 0x11 s)

-- ---- the kind that is called for says the value: no two rows have one kind
each_row : (z b s c i j f d : Bool) → unset_by (row z b s c i j f d).kind ≡ unset_of (row z b s c i j f d)
unfolding unset_by row_by eight
each_row true b s c i j f d = refl
each_row false true s c i j f d = refl
each_row false false true c i j f d = refl
each_row false false false true i j f d = refl
each_row false false false false true j f d = refl
each_row false false false false false true f d = refl
each_row false false false false false false true d = refl
each_row false false false false false false false true = refl
each_row false false false false false false false false = refl

by_kind : (text : List ℕ) → unset_by (kind_called text) ≡ default text
unfolding kind_called default row_of eight
by_kind text =
    each_row (same_bytes text (0x5a ∷ [])) (same_bytes text (0x42 ∷ [])) (same_bytes text (0x53 ∷ [])) (same_bytes text (0x43 ∷ []))
    (same_bytes text (0x49 ∷ [])) (same_bytes text (0x4a ∷ [])) (same_bytes text (0x46 ∷ [])) (same_bytes text (0x44 ∷ []))

pub default_by : (text : List ℕ) {k : ℕ} {v : Shown} → k ≡ kind_called text → v ≡ unset_by k → v ≡ default text
default_by text e h = h ∙ ap unset_by e ∙ by_kind text

-- ---- which kinds suit
module _ (called kind : ℕ) where
  module _ (n : called ≡ 0x1e) where
    pub suits_low : kind < 0x15 → false ≡ suits called kind
    unfolding suits
    suits_low h = rw (eq-eqb called 0x1e n, lt-leb 0x15 kind h)

    pub suits_high : 0x1e < kind → false ≡ suits called kind
    unfolding suits
    suits_high h = rw (eq-eqb called 0x1e n, le-leb 0x15 kind (omega arith), lt-leb kind 0x1e h)

    pub suits_any : 0x15 ≤ kind → kind ≤ 0x1e → true ≡ suits called kind
    unfolding suits
    suits_any l h = rw (eq-eqb called 0x1e n, le-leb 0x15 kind l, le-leb kind 0x1e h)

  pub suits_own : (called ≡ 0x1e → ⊥) → eqb kind called ≡ suits called kind
  unfolding suits
  suits_own n = rw (ne_eqb called 0x1e n)

pub fits_by : (text : List ℕ) (kind : ℕ) {k : ℕ} {b : Bool} → k ≡ kind_called text → b ≡ suits k kind → b ≡ fits text kind
unfolding fits
fits_by text kind e h = h ∙ ap (λ (x : ℕ). suits x kind) e

pub ruleset letter_laws = (letter_z, letter_b, letter_s, letter_c, letter_i, letter_j, letter_f, letter_d, letter_other, rules)

pub ruleset unset_laws = (unset_boolean, unset_byte, unset_short, unset_char, unset_int, unset_long, unset_float, unset_double, unset_null, rules)

pub ruleset text_laws = (one_letter, not_one, some_byte, default_by, fits_by, rules)

pub ruleset suits_laws = (suits_low, suits_high, suits_any, suits_own, rules)
