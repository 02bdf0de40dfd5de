-- What an answer of the code says, no other answer says.
-- Assumes nothing.
use mathlib.Core.Path.{◌≡◌}
use Rattle.refusal.proofs.Kept.{same_once}
use Rattle.std.specs.Prelude.{ℕ, Result}
use Rattle.map_list.specs.declared.MapEntry.{MapEntry}
use Rattle.table_readers.specs.declared.Opened.{Opened}
use Rattle.refusal.specs.declared.Refusal.{Refusal}
use Rattle.table_readers.specs.Answers.{count_outcome, entry_outcome, opened_outcome}

pub count_once : (x y : Result ℕ Refusal) → count_outcome x ≡ count_outcome y → x ≡ y
count_once = same_once

pub entry_once : (x y : Result MapEntry Refusal) → entry_outcome x ≡ entry_outcome y → x ≡ y
entry_once = same_once

pub opened_once : (x y : Result Opened Refusal) → opened_outcome x ≡ opened_outcome y → x ≡ y
opened_once = same_once
