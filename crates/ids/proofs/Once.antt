-- What an answer of the code says, no other answer says.
-- Assumes nothing.
use Prim.Native.Nat.{ℕ}
use mathlib.Core.Path.{◌≡◌}
use Rattle.std.specs.Prelude.{Result}
use Rattle.refusal.specs.declared.Refusal.{Refusal}
use Rattle.refusal.proofs.Kept.{same_once}
use Rattle.ids.specs.declared.Proto.{Proto}
use Rattle.ids.specs.declared.MemberId.{MemberId}
use Rattle.ids.specs.declared.Handle.{Handle}
use Rattle.ids.specs.Answers.{index_outcome, proto_outcome, member_id_outcome, handle_outcome}

pub index_once : (x y : Result ℕ Refusal) → index_outcome x ≡ index_outcome y → x ≡ y
index_once = same_once

pub proto_once : (x y : Result Proto Refusal) → proto_outcome x ≡ proto_outcome y → x ≡ y
proto_once = same_once

pub member_once : (x y : Result MemberId Refusal) → member_id_outcome x ≡ member_id_outcome y → x ≡ y
member_once = same_once

pub handle_once : (x y : Result Handle Refusal) → handle_outcome x ≡ handle_outcome y → x ≡ y
handle_once = same_once
