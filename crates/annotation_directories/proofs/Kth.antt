-- In an item that obeys its rules each number below a count is answered with what stands there, and any other number is 7.
-- Assumes nothing.
use Prim.Native.Nat.{ℕ, ◌≤◌}
use mathlib.Core.Path.{◌≡◌, ◌∙◌}
use mathlib.Core.List.{List}
use lib.ListN.{length}
use Rattle.refusal.specs.Refusals.{not_there}
use Rattle.refusal.specs.Outcome.{answer, refused}
use Rattle.refusal.specs.Exact.{At}
use Rattle.refusal.proofs.Laws.{bind_answer}
use Rattle.frame.specs.declared.Frame.{Frame}
use Rattle.value_bodies.proofs.Picks.{pick_there, pick_none}
use Rattle.annotation_directories.specs.Directories.{DirectoryEntry, Directory, directory_head, list_of, directory_entry}
use Rattle.annotation_directories.specs.Rules.{DirectoryRule}
use Rattle.annotation_directories.proofs.Exactly.{directory_exact}

-- a directory: list 0, 1 or 2; any other list has no entries
module _ (s : List ℕ) (f : Frame) (item : ℕ) (d : Directory) (h : DirectoryRule s f item d) where
  pub directory_counted : directory_head s f item ≡ answer d.head
  unfolding directory_head
  directory_counted = bind_answer _ ((directory_exact s f item).complete d h)

  pub entries_kth : (list k : ℕ) (e : DirectoryEntry) → At (list_of d list) k e → directory_entry s f item list k ≡ answer e
  unfolding directory_entry
  entries_kth list k e m = bind_answer _ ((directory_exact s f item).complete d h) ∙ pick_there m

  pub entries_past : (list k : ℕ) → length (list_of d list) ≤ k → directory_entry s f item list k ≡ refused not_there
  unfolding directory_entry
  entries_past list k p = bind_answer _ ((directory_exact s f item).complete d h) ∙ pick_none (list_of d list) k p
