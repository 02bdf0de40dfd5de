-- Laws of the words in which `readers_answer` is said.
-- Assumes nothing.
use Prim.Native.Nat.{ℕ, ◌<◌}
use mathlib.Core.Path.{◌≡◌, refl, subst}
use mathlib.Core.Option.{Option, none, some}
use mathlib.Core.List.{List}
use native.Mathlib.Omega.{arith}
use Rattle.refusal.specs.Exact.{Present, absent, found_there, At}
use Rattle.refusal.proofs.Each.{at_some}
use Rattle.std.specs.Prelude as S
use Rattle.std.specs.Prelude.{Some, None}
use Rattle.promises.specs.Numbers.{EachIn, There, LeadsTo, IfThere, IfGiven}

-- what holds of each item of a list holds of each number below its length
pub each_number : {A : Type 0} {Fact : ℕ → A → Type 0} (l : List A) → ((k : ℕ) (a : A) → At l k a → Fact k a) → EachIn l Fact
each_number l fact k p = let m = at_some l k p in (m.0, m.1, fact k m.0 m.1)

-- an offset that is not 0
pub leads_to : {A : Type 0} {Rule Fact : A → Type 0} {offset : ℕ} {o : Option A} → Present Rule offset o → ((a : A) → o ≡ some a → Rule a → Fact a) → LeadsTo offset o Fact
leads_to (absent e) fact p = absurd (omega arith)
leads_to (found_there {a = a} q rule) fact p = (a, refl, fact a refl rule)

pub is_there : {A : Type 0} {Rule : A → Type 0} {offset : ℕ} {o : Option A} → Present Rule offset o → 0 < offset → There o
is_there (absent e) p = absurd (omega arith)
is_there (found_there {a = a} q rule) p = (a, refl)

-- what may be absent
pub of_there : {A : Type 0} (P : A → Type 0) {o : Option A} {a : A} → o ≡ some a → IfThere P o → P a
of_there P e h = subst (IfThere P) e h

pub if_there_then : {A : Type 0} (P Q : A → Type 0) → ((a : A) → P a → Q a) → (o : Option A) → IfThere P o → IfThere Q o
if_there_then P Q step none h = tt
if_there_then P Q step (some a) h = step a h

pub if_given_then : (P Q : ℕ → Type 0) → ((n : ℕ) → P n → Q n) → (m : S.Option ℕ) → IfGiven P m → IfGiven Q m
if_given_then P Q step None h = tt
if_given_then P Q step (Some n) h = step n h
