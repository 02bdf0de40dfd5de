-- In an item that obeys its rules each number below a count is answered with what stands there, and any other number is 7.
-- Assumes nothing.
use Prim.Native.Nat.{ℕ, ◌≤◌}
use mathlib.Core.Path.{◌≡◌, ◌∙◌}
use mathlib.Core.Bool.{Bool}
use mathlib.Core.List.{List}
use lib.ListN.{length}
use Rattle.refusal.specs.Refusals.{not_there}
use Rattle.refusal.specs.Outcome.{answer, refused}
use Rattle.refusal.specs.Exact.{At}
use Rattle.refusal.proofs.Laws.{bind_answer}
use Rattle.frame.specs.declared.Frame.{Frame}
use Rattle.value_bodies.proofs.Picks.{pick_there, pick_none}
use Rattle.annotation_lists.specs.Offsets.{offset_count, offset_number}
use Rattle.annotation_lists.specs.Rules.{OffsetsRule}
use Rattle.annotation_lists.proofs.Exactly.{offsets_exact}

-- a set or a reference list
module _ (s : List ℕ) (f : Frame) (item : ℕ) (absent four : Bool) (l : List ℕ) (h : OffsetsRule s f item absent four l) where
  pub offsets_counted : offset_count s f item absent four ≡ answer (length l)
  unfolding offset_count
  offsets_counted = bind_answer _ ((offsets_exact s f item absent four).complete l h)

  pub offsets_kth : (k x : ℕ) → At l k x → offset_number s f item absent four k ≡ answer x
  unfolding offset_number
  offsets_kth k x m = bind_answer _ ((offsets_exact s f item absent four).complete l h) ∙ pick_there m

  pub offsets_past : (k : ℕ) → length l ≤ k → offset_number s f item absent four k ≡ refused not_there
  unfolding offset_number
  offsets_past k p = bind_answer _ ((offsets_exact s f item absent four).complete l h) ∙ pick_none l k p
