-- Lists of fixed-width entries: exact where their entries are, the k-th is there, and the loop that goes over them.
-- Assumes nothing.
use Prim.Native.Nat.{ℕ, ◌+◌, ◌*◌, ◌<◌, ◌≤◌}
use mathlib.Core.Path.{◌≡◌, ap, sym, ◌∙◌}
use mathlib.Core.List.{List}
use lib.ListN.{length}
use native.Mathlib.Omega.{arith}
use Rattle.refusal.specs.Refusals.{runs_past}
use Rattle.refusal.specs.declared.Refusal.{Refusal}
use Rattle.refusal.specs.Outcome.{Outcome, answer, refused, ◌>>=◌, accepted}
use Rattle.refusal.specs.Exact.{Exact, Each}
use Rattle.refusal.proofs.Exact.{given_exact, exact_iff, at_most}
use Rattle.refusal.proofs.Each.{at_some, every_exact}
use Rattle.refusal.proofs.Loops.{Numbers, numbers_first, numbers_next, numbers_stop, numbers_done}
use Rattle.value_bodies.specs.Bodies.{pick}
use Rattle.value_bodies.proofs.Picks.{pick_there}
use Rattle.annotation_lists.specs.Fixed.{entries_from, fixed_at, Fixed}

module _ {A : Type 0} (entry : ℕ → Outcome A) (width from count : ℕ) where
  module _ (Entry : ℕ → A → Type 0) (exact : (p : ℕ) → Exact (entry p) (Entry p)) where
    pub entries_exact : Exact (entries_from entry width from count) (Each (λ (k : ℕ) (a : A). Entry (from + width * k) a) count)
    unfolding entries_from
    entries_exact = every_exact (λ (k : ℕ) (a : A). Entry (from + width * k) a) (λ (k : ℕ). entry (from + width * k)) (λ k. exact (from + width * k)) count

    pub fixed_exact : (s : List ℕ) (item : ℕ) → Exact (fixed_at s item entry width from count) (Fixed s Entry width from count)
    unfolding fixed_at
    fixed_exact s item =
        exact_iff (given_exact (runs_past item) (at_most (from + width * count) (length s)) entries_exact)
        (λ l h. record { room = h.0; entries = h.1 })
        (λ l h. (h.room, h.entries))

    -- the k-th entry is there for each k below the count
    pub fixed_kth : {s : List ℕ} {l : List A} (k : ℕ) → Fixed s Entry width from count l → k < count → entry (from + width * k) ≡ pick k l
    fixed_kth {s} {l} k h p =
        let m = at_some l k (let z = h.entries.count in omega arith) in
        (exact (from + width * k)).complete m.0 (h.entries.each m.1) ∙ sym (pick_there m.1)

-- A loop over such a list at its head: k entries are past, the next one is at a place inside.
pub record Along {A : Type 0} (entry : ℕ → Outcome A) (s : List ℕ) (width from count k at : ℕ) : Type 0 where
  pub numbers : Numbers (λ (k : ℕ). entry (from + width * k)) count k
  pub here_is : from + width * k ≡ at
  pub room : from + width * count ≤ length s

pub along_first : {A : Type 0} (entry : ℕ → Outcome A) (s : List ℕ) (width from count : ℕ) → from + width * count ≤ length s → Along entry s width from count 0 from
along_first entry s width from count h = record {
  numbers = numbers_first (λ (k : ℕ). entry (from + width * k)) count;
  here_is = omega arith;
  room = h;
}

wider : (w k : ℕ) → w * (k + 1) ≡ w * k + w
wider w k = omega arith

module _ {A : Type 0} {entry : ℕ → Outcome A} {s : List ℕ} {width from count k at : ℕ} (h : Along entry s width from count k at) where
  there_too : {o : Outcome A} → o ≡ entry at → o ≡ entry (from + width * k)
  there_too e = e ∙ ap entry (sym h.here_is)

  pub along_next : {a : A} → k < count → answer a ≡ entry at → Along entry s width from count (k + 1) (at + width)
  along_next l e = record {
    numbers = numbers_next h.numbers l (there_too e);
    here_is = let w = wider width k in let z = h.here_is in omega arith;
    room = h.room;
  }

  pub along_stop : {B : Type 0} {r : Refusal} (f : List A → Outcome B) → k < count → refused r ≡ entry at → refused r ≡ (entries_from entry width from count >>= f)
  unfolding entries_from
  along_stop f l e = numbers_stop h.numbers f l (there_too e)

  pub along_done : count ≤ k → answer tt ≡ (entries_from entry width from count >>= accepted)
  unfolding entries_from
  along_done l = numbers_done h.numbers l

-- the next entry lies inside
pub along_four : {A : Type 0} {entry : ℕ → Outcome A} {s : List ℕ} {from count k at : ℕ} → Along entry s 4 from count k at → k < count → at + 4 ≤ length s
along_four h l = let y = h.here_is in let z = h.room in omega arith

pub along_eight : {A : Type 0} {entry : ℕ → Outcome A} {s : List ℕ} {from count k at : ℕ} → Along entry s 8 from count k at → k < count → at + 8 ≤ length s
along_eight h l = let y = h.here_is in let z = h.room in omega arith
