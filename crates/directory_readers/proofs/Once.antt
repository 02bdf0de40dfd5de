-- What an answer of the code says, no other answer says.
-- Assumes nothing.
use mathlib.Core.Path.{◌≡◌, refl}
use Rattle.refusal.proofs.Kept.{maybe_once, same_once}
use Rattle.annotation_directories.specs.declared.DirectoryHead.{DirectoryHead}
use Rattle.directory_readers.specs.declared.Reached.{Reached}
use Rattle.std.specs.Prelude as S
use Rattle.std.specs.Prelude.{Result}
use Rattle.refusal.specs.declared.Refusal.{Refusal}
use Rattle.directory_readers.specs.Answers.{reached_outcome, directory_outcome}

pub reached_once : (x y : Result Reached Refusal) → reached_outcome x ≡ reached_outcome y → x ≡ y
reached_once = same_once

pub directory_once : (x y : Result (S.Option DirectoryHead) Refusal) → directory_outcome x ≡ directory_outcome y → x ≡ y
directory_once = maybe_once (λ (h : DirectoryHead). h) (λ (h : DirectoryHead). h) (λ h. refl)
