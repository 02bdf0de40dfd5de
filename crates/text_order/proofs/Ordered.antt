-- The order of texts is strict, and the comparison answers it.
-- Assumes nothing.
use Prim.Native.Nat.{ℕ, ◌<◌, ◌≤◌}
use mathlib.Core.Path.{◌≡◌, refl, subst}
use mathlib.Core.Bool.{Bool, true, false, cond}
use mathlib.Core.List.{List, [], ◌∷◌}
use lib.Dec.{ltb}
use borrow.Author.Tests.{ltb-true, ltb-false}
use native.Mathlib.Omega.{arith}
use Rattle.refusal.specs.Exact.{Decides, Strict}
use Rattle.refusal.proofs.Exact.{decided_yes, decided_no}
use Rattle.text_order.specs.Order.{Before, ends, lower, alike, compared, is_less, is_equal}
use Rattle.std.specs.declared.cmp.Ordering.{Ordering}
use Rattle.std.specs.declared.cmp.Ordering.TheVariants.{Less, Equal, Greater}

-- what comes before another text is not that text
apart : {x y : List ℕ} → Before x y → x ≡ y → ⊥
apart ends e = cc
apart (lower {a = a} {b = b} p) e = let same : a ≡ b = cc in omega arith
apart (alike h) e = apart h (cc)

onward : {x y z : List ℕ} → Before x y → Before y z → Before x z
onward ends (lower q) = ends
onward ends (alike k) = ends
onward (lower {a = a} p) (lower {b = c} q) = let r : a < c = omega arith in lower r
onward (lower p) (alike k) = lower p
onward (alike h) (lower q) = lower q
onward (alike h) (alike k) = alike (onward h k)

never : (x : List ℕ) → Before x x → ⊥
never x h = apart h refl

pub strict : Strict Before
strict = record { never = λ {a} h. never a h; onward = onward }

-- what the comparison's answer says
abbrev Said : List ℕ → List ℕ → Ordering → Type 0
Said x y Less = Before x y
Said x y Equal = x ≡ y
Said x y Greater = Before y x

said : (x y : List ℕ) → Said x y (compared x y)
unfolding compared
said [] [] = refl
said [] (b ∷ y) = ends
said (a ∷ x) [] = ends
said (a ∷ x) (b ∷ y) = first (said x y) (ltb a b) refl
  where
    more : a ≡ b → (o : Ordering) → Said x y o → Said (a ∷ x) (b ∷ y) o
    more e Less h = subst (λ (c : ℕ). Before (a ∷ x) (c ∷ y)) e (alike h)
    more e Equal h = λ i. e i ∷ h i
    more e Greater h = subst (λ (c : ℕ). Before (c ∷ y) (a ∷ x)) e (alike h)

    second : Said x y (compared x y) → b ≤ a → (v : Bool) → ltb b a ≡ v → Said (a ∷ x) (b ∷ y) (cond v Greater (compared x y))
    second h p true t = lower (ltb-true b a t)
    second h p false t = let q = ltb-false b a t in more (omega arith) (compared x y) h

    first : Said x y (compared x y) → (v : Bool) → ltb a b ≡ v → Said (a ∷ x) (b ∷ y) (cond v Less (cond (ltb b a) Greater (compared x y)))
    first h true t = lower (ltb-true a b t)
    first h false t = second h (ltb-false a b t) (ltb b a) refl

pub before_decides : (x y : List ℕ) → Decides (is_less (compared x y)) (Before x y)
unfolding is_less
before_decides x y = go (compared x y) (said x y)
  where
    go : (o : Ordering) → Said x y o → Decides (is_less o) (Before x y)
    go Less s = decided_yes s
    go Equal s = decided_no λ h. never y (subst (λ (w : List ℕ). Before w y) s h)
    go Greater s = decided_no λ h. never x (onward h s)

pub same_decides : (x y : List ℕ) → Decides (is_equal (compared x y)) (x ≡ y)
unfolding is_equal
same_decides x y = go (compared x y) (said x y)
  where
    go : (o : Ordering) → Said x y o → Decides (is_equal o) (x ≡ y)
    go Less s = decided_no λ e. never y (subst (λ (w : List ℕ). Before w y) e s)
    go Equal s = decided_yes s
    go Greater s = decided_no λ e. never y (subst (λ (w : List ℕ). Before y w) e s)
