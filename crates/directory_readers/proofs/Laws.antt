-- What the proofs of the readers of directories cite.
-- Assumes nothing.
use Prim.Native.Nat.{ℕ}
use mathlib.Core.Path.{◌≡◌, ◌∙◌}
use mathlib.Core.List.{List}
use borrow.Author.Rules.{rules}
use Rattle.refusal.specs.declared.Refusal.{Refusal}
use Rattle.refusal.specs.Outcome.{Outcome, answer, refused, ◌>>=◌}
use Rattle.refusal.proofs.Laws.{tests, calls, on_ok, on_err}
use Rattle.frame.specs.declared.Frame.{Frame}
use Rattle.header.specs.declared.Header.{Header}
use Rattle.header.specs.Header.{up_to_end, frame_of}
use Rattle.annotation_directories.specs.declared.DirectoryHead.{DirectoryHead}
use Rattle.annotation_directories.specs.Directories.{DirectoryEntry, directory_head, directory_entry}

-- a directory that was read in the file up to the data section's end, s, against the file's counts, r
module _ (f : List ℕ) (h : Header) (handles item : ℕ) {s : List ℕ} {r : Frame} (e : s ≡ up_to_end f h) (g : r ≡ frame_of h handles) where
  pub head_framed : {B : Type 0} {d : DirectoryHead} {y : Outcome B} (k : DirectoryHead → Outcome B) → answer d ≡ directory_head s r item → y ≡ k d → y ≡ (directory_head (up_to_end f h) (frame_of h handles) item >>= k)
  head_framed k q = on_ok k (q ∙ (λ i. directory_head (e i) (g i) item))

  pub head_unframed : {B : Type 0} {x : Refusal} (k : DirectoryHead → Outcome B) → refused x ≡ directory_head s r item → refused x ≡ (directory_head (up_to_end f h) (frame_of h handles) item >>= k)
  head_unframed k q = on_err k (q ∙ (λ i. directory_head (e i) (g i) item))

  pub entry_framed : (list k : ℕ) {y : Outcome DirectoryEntry} → y ≡ directory_entry s r item list k → y ≡ directory_entry (up_to_end f h) (frame_of h handles) item list k
  entry_framed list k q = q ∙ (λ i. directory_entry (e i) (g i) item list k)

pub ruleset laws = (calls, rules)

pub ruleset framed = (head_framed, head_unframed, entry_framed, calls, tests, rules)
