-- What an answer of the code says, no other answer says: a contract `outcome r ≡ reading` allows one answer.
-- Assumes nothing.
use mathlib.Core.Path.{◌≡◌, refl}
use Rattle.refusal.proofs.Kept.{outcome_once, same_once}
use Rattle.annotation_directories.specs.declared.DirectoryHead.{DirectoryHead}
use Rattle.annotation_directories.specs.Directories.{DirectoryEntry}
use Rattle.std.specs.Prelude.{Result}
use Rattle.refusal.specs.declared.Refusal.{Refusal}
use Rattle.annotation_directories.specs.declared.DirectoryEntry as D
use Rattle.annotation_directories.specs.Answers.{directory_entry_outcome, directory_head_outcome}

pub entry_once : (x y : Result D.DirectoryEntry Refusal) → directory_entry_outcome x ≡ directory_entry_outcome y → x ≡ y
entry_once = outcome_once (λ (x : D.DirectoryEntry). record { index = x.index; offset = x.offset }) (λ (r : DirectoryEntry). record { index = r.index; offset = r.offset }) (λ x. refl)

pub head_once : (x y : Result DirectoryHead Refusal) → directory_head_outcome x ≡ directory_head_outcome y → x ≡ y
head_once = same_once
