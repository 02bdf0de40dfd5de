-- The table and its rules agree.
-- Assumes nothing.
use Prim.Native.Nat.{ℕ, ◌≤◌}
use mathlib.Core.Path.{◌≡◌, refl, ap, sym, subst, ◌∙◌}
use mathlib.Core.Bool.{Bool, true, false, cond, ◌&&◌, false≢true}
use mathlib.Core.List.{List, [], ◌∷◌}
use lib.Dec.{leb, eqb}
use native.Mathlib.Omega.{arith}
use Rattle.refusal.specs.Outcome.{answer}
use Rattle.refusal.specs.Exact.{Exact, Decides, At, here, there}
use Rattle.refusal.proofs.Each.{at_below}
use Rattle.refusal.proofs.Exact.{answers_equal, equal, at_most, both, decided_yes, decided_no}
use Rattle.decoded_value.specs.Shown.{Shown, is, nothing}
use Rattle.static_kinds.specs.Kinds.{TextKind, eight, other_text, same_bytes, row_of, kind_called, unset_of, default, suits, fits}
use Rattle.static_kinds.specs.Rules.{Other, Takes, its_own, any_of, Unset, of_row, null_else}

-- ---- texts are compared whole
front_same : {a b : ℕ} {x y : List ℕ} → a ∷ x ≡ b ∷ y → a ≡ b
front_same e = cc

rest_same : {a b : ℕ} {x y : List ℕ} → a ∷ x ≡ b ∷ y → x ≡ y
rest_same e = cc

no_front : {b : ℕ} {y : List ℕ} → ◌≡◌ {A = List ℕ} [] (b ∷ y) → ⊥
no_front e = let z : ◌≡◌ {A = ℕ} 0 1 = cc in omega arith

pub same_decides : (x y : List ℕ) → Decides (same_bytes x y) (x ≡ y)
unfolding same_bytes
same_decides [] [] = decided_yes refl
same_decides [] (b ∷ y) = decided_no no_front
same_decides (a ∷ x) [] = decided_no λ e. no_front (sym e)
same_decides (a ∷ x) (b ∷ y) =
    let d = both (equal a b) (same_decides x y) in
    record { sound = λ t. let h = d.sound t in λ i. h.0 i ∷ h.1 i; complete = λ e. d.complete (front_same e, rest_same e) }

-- ---- the row of a text is one with that text, or there is none
data Located (text : List ℕ) (l : List TextKind) : TextKind → Type 0 where
  at_row : {k : ℕ} {r : TextKind} → At l k r → r.text ≡ text → Located text l r
  nowhere : ((k : ℕ) (r : TextKind) → At l k r → r.text ≡ text → ⊥) → Located text l other_text

further : {text : List ℕ} {q : TextKind} {l : List TextKind} {r : TextKind} → (q.text ≡ text → ⊥) → Located text l r → Located text (q ∷ l) r
further p (at_row m e) = at_row (there m) e
further {text} {q} {l} p (nowhere h) = nowhere go
  where
    go : (k : ℕ) (r : TextKind) → At (q ∷ l) k r → r.text ≡ text → ⊥
    go k r here e = p e
    go k r (there m) e = h _ r m e

located : (text : List ℕ) (l : List TextKind) → Located text l (row_of text l)
unfolding row_of
located text [] = nowhere λ k r m e. let z = at_below m in omega arith
located text (q ∷ l) = go (same_bytes text q.text) (same_decides text q.text) (located text l)
  where
    go : (b : Bool) → Decides b (text ≡ q.text) → Located text l (row_of text l) → Located text (q ∷ l) (cond b q (row_of text l))
    go true d rest = at_row here (sym (d.sound refl))
    go false d rest = further (λ e. false≢true (d.complete (sym e))) rest

-- ---- each row, by computation: no kind of the eight is null's, its own kind fits, and its text calls for its zero
own_kind : {k : ℕ} {r : TextKind} → At eight k r → eqb r.kind 0x1e ≡ false
unfolding eight
own_kind here = refl
own_kind (there here) = refl
own_kind (there (there here)) = refl
own_kind (there (there (there here))) = refl
own_kind (there (there (there (there here)))) = refl
own_kind (there (there (there (there (there here))))) = refl
own_kind (there (there (there (there (there (there here)))))) = refl
own_kind (there (there (there (there (there (there (there here))))))) = refl
own_kind {r = r} (there (there (there (there (there (there (there (there {k = k} x40)))))))) = elim x40 [ ]

pub row_fits : {k : ℕ} {r : TextKind} → At eight k r → fits r.text r.kind ≡ true
unfolding eight fits suits kind_called row_of same_bytes
row_fits here = refl
row_fits (there here) = refl
row_fits (there (there here)) = refl
row_fits (there (there (there here))) = refl
row_fits (there (there (there (there here)))) = refl
row_fits (there (there (there (there (there here))))) = refl
row_fits (there (there (there (there (there (there here)))))) = refl
row_fits (there (there (there (there (there (there (there here))))))) = refl
row_fits {r = r} (there (there (there (there (there (there (there (there {k = k} x40)))))))) = elim x40 [ ]

pub row_default : {k : ℕ} {r : TextKind} → At eight k r → default r.text ≡ unset_of r
unfolding eight default row_of same_bytes
row_default here = refl
row_default (there here) = refl
row_default (there (there here)) = refl
row_default (there (there (there here))) = refl
row_default (there (there (there (there here)))) = refl
row_default (there (there (there (there (there here))))) = refl
row_default (there (there (there (there (there (there here)))))) = refl
row_default (there (there (there (there (there (there (there here))))))) = refl
row_default {r = r} (there (there (there (there (there (there (there (there {k = k} x40)))))))) = elim x40 [ ]

-- ---- which kinds fit
module _ (text : List ℕ) (kind : ℕ) where
  other_decides : Decides (suits 0x1e kind) ((0x15 ≤ kind) × (kind ≤ 0x1e))
  unfolding suits
  other_decides = both (at_most 0x15 kind) (at_most kind 0x1e)

  own_suits : {k : ℕ} {r : TextKind} → At eight k r → suits r.kind kind ≡ eqb kind r.kind
  unfolding suits
  own_suits {r = r} m = ap (λ (b : Bool). cond b (leb 0x15 kind && leb kind 0x1e) (eqb kind r.kind)) (own_kind m)

  fits_sound : (r : TextKind) → Located text eight r → suits r.kind kind ≡ true → Takes text kind
  fits_sound r (at_row m e) t = its_own m e (sym ((equal kind r.kind).sound (sym (own_suits m) ∙ t)))
  fits_sound r (nowhere h) t = let d = other_decides.sound t in any_of (record { of_no_row = λ {k} {r = q} m e. h k q m e }) d.0 d.1

  fits_other : (r : TextKind) → Located text eight r → Other text → 0x15 ≤ kind → kind ≤ 0x1e → suits r.kind kind ≡ true
  fits_other r (at_row m e) o l h = absurd (o.of_no_row m e)
  fits_other r (nowhere p) o l h = other_decides.complete (l, h)

  fits_complete : Takes text kind → fits text kind ≡ true
  unfolding fits kind_called
  fits_complete (its_own {r = r} m e q) = (λ i. fits (sym e i) (sym q i)) ∙ row_fits m
  fits_complete (any_of o l h) = fits_other (row_of text eight) (located text eight) o l h

  pub fits_decides : Decides (fits text kind) (Takes text kind)
  unfolding fits kind_called
  fits_decides = record { sound = fits_sound (row_of text eight) (located text eight); complete = fits_complete }

-- ---- the zero, false or null
module _ (text : List ℕ) where
  unset_row : (r : TextKind) → Located text eight r → Unset text (unset_of r)
  unset_row r (at_row m e) = of_row m e
  unset_row r (nowhere h) = null_else (record { of_no_row = λ {k} {r = q} m e. h k q m e })

  null_row : (r : TextKind) → Located text eight r → Other text → unset_of r ≡ is 0x1e nothing
  null_row r (at_row m e) o = absurd (o.of_no_row m e)
  null_row r (nowhere h) o = refl

  default_only : (v : Shown) → Unset text v → default text ≡ v
  unfolding default
  default_only v (of_row {r = r} m e) = ap default (sym e) ∙ row_default m
  default_only v (null_else o) = null_row (row_of text eight) (located text eight) o

  pub default_exact : Exact (answer (default text)) (Unset text)
  unfolding default
  default_exact = record {
    sound = λ v e. subst (Unset text) (answers_equal e) (unset_row (row_of text eight) (located text eight));
    complete = λ v h. ap answer (default_only v h);
  }
