-- What an answer of the code says, no other answer says.
-- Assumes nothing.
use mathlib.Core.Path.{◌≡◌}
use Rattle.std.specs.Prelude.{Result}
use Rattle.refusal.specs.declared.Refusal.{Refusal}
use Rattle.refusal.proofs.Kept.{same_once}
use Rattle.map_list.specs.declared.MapList.{MapList}
use Rattle.map_list.specs.Answers.{map_outcome}

pub map_once : (x y : Result MapList Refusal) → map_outcome x ≡ map_outcome y → x ≡ y
map_once = same_once
