-- The readings of annotation sets and reference lists find exactly what the rules allow, and no two things at one place.
-- Assumes nothing.
use Prim.Native.Nat.{ℕ, ◌+◌, ◌≤◌}
use mathlib.Core.Path.{◌≡◌, refl, sym, subst}
use mathlib.Core.Bool.{Bool, true, false}
use mathlib.Core.List.{List}
use lib.ListN.{length}
use Rattle.refusal.specs.Refusals.{runs_past, wrong_offset}
use Rattle.refusal.specs.Exact.{Exact, Decides}
use Rattle.refusal.proofs.Exact.{same, answer_exact, given_exact, bind_exact, exact_iff, at_most}
use Rattle.word.specs.Words.{u32_at}
use Rattle.frame.specs.declared.Frame.{Frame}
use Rattle.frame.proofs.Laws.{allowed_decides, or_absent_decides}
use Rattle.annotation_lists.specs.Fixed.{Fixed}
use Rattle.annotation_lists.specs.Offsets.{offset_allowed, word_at, offset_of, offset_at, offsets_at, set_at, references_at}
use Rattle.annotation_lists.specs.Rules.{OffsetAllowed, OffsetRule, OffsetsRule, SetRule, ReferencesRule}
use Rattle.annotation_lists.proofs.Fixed.{fixed_exact}

pub offset_decides : (start end : ℕ) (absent four : Bool) (x : ℕ) → Decides (offset_allowed start end absent four x) (OffsetAllowed start end absent four x)
unfolding offset_allowed OffsetAllowed
offset_decides start end true four x = or_absent_decides start end four x
offset_decides start end false four x = allowed_decides start end four x

-- the word that stands at a place
abbrev pub Stands : List ℕ → Frame → ℕ → ℕ → Type 0
Stands s f p x = (p + 4 ≤ length s) × (u32_at f.order s p ≡ x)

pub word_exact : (s : List ℕ) (f : Frame) (item p : ℕ) → Exact (word_at s f item p) (λ (x : ℕ). (p + 4 ≤ length s) × (u32_at f.order s p ≡ x))
unfolding word_at
word_exact s f item p = given_exact (runs_past item) (at_most (p + 4) (length s)) (answer_exact (u32_at f.order s p))

module _ (s : List ℕ) (f : Frame) (item : ℕ) (absent four : Bool) where
  pub offset_exact : (p : ℕ) → Exact (offset_at s f item absent four p) (OffsetRule s f item absent four p)
  unfolding offset_at offset_of
  offset_exact p =
      let x = u32_at f.order s p in
      exact_iff (given_exact (wrong_offset item) (offset_decides f.start (length s) absent four x) (answer_exact x))
      (λ y h. record { stands = h.1; allows = subst (OffsetAllowed f.start (length s) absent four) h.1 h.0 })
      (λ y h. (subst (OffsetAllowed f.start (length s) absent four) (sym h.stands) h.allows, h.stands))

  pub offsets_exact : Exact (offsets_at s f item absent four) (OffsetsRule s f item absent four)
  unfolding offsets_at
  offsets_exact =
      exact_iff (bind_exact (Stands s f item) (λ (n : ℕ). Fixed s (OffsetRule s f item absent four) 4 (item + 4) n) (word_exact s f item item)
      (λ n. fixed_exact (offset_at s f item absent four) 4 (item + 4) n (OffsetRule s f item absent four) offset_exact s item))
      (λ l h. record { room = h.1.0.0; offsets = subst (λ (n : ℕ). Fixed s (OffsetRule s f item absent four) 4 (item + 4) n l) (sym h.1.0.1) h.1.1 })
      (λ l h. (u32_at f.order s item, ((h.room, refl), h.offsets)))

pub set_exact : (s : List ℕ) (f : Frame) (item : ℕ) → Exact (set_at s f item) (SetRule s f item)
set_exact s f item = offsets_exact s f item false false

pub references_exact : (s : List ℕ) (f : Frame) (item : ℕ) → Exact (references_at s f item) (ReferencesRule s f item)
references_exact s f item = offsets_exact s f item true true

pub set_same : (s : List ℕ) (f : Frame) (item : ℕ) (a b : List ℕ) → SetRule s f item a → SetRule s f item b → a ≡ b
set_same s f item = same (set_exact s f item)

pub references_same : (s : List ℕ) (f : Frame) (item : ℕ) (a b : List ℕ) → ReferencesRule s f item a → ReferencesRule s f item b → a ≡ b
references_same s f item = same (references_exact s f item)
