-- What an answer of the code says, no other answer says: a contract `outcome r ≡ reading` allows one answer.
-- Assumes nothing.
use mathlib.Core.Path.{◌≡◌, refl}
use Rattle.std.specs.Prelude.{Result}
use Rattle.refusal.specs.declared.Refusal.{Refusal}
use Rattle.refusal.specs.declared.Read.{Read}
use Rattle.refusal.proofs.Kept.{read_once, same_once}
use Rattle.class_members.specs.declared.Member.{Member}
use Rattle.class_data.specs.declared.Counts.{Counts}
use Rattle.class_data.specs.declared.Methods.{Methods}
use Rattle.class_data.specs.Answers.{counts_outcome, data_outcome, methods_outcome, member_outcome}

pub counts_once : (x y : Result (Read Counts) Refusal) → counts_outcome x ≡ counts_outcome y → x ≡ y
counts_once = read_once (λ (c : Counts). c) (λ (c : Counts). c) (λ c. refl)

pub data_once : (x y : Result (Read Counts) Refusal) → data_outcome x ≡ data_outcome y → x ≡ y
data_once = counts_once

pub member_once : (x y : Result Member Refusal) → member_outcome x ≡ member_outcome y → x ≡ y
member_once = same_once

pub methods_once : (x y : Result Methods Refusal) → methods_outcome x ≡ methods_outcome y → x ≡ y
methods_once = same_once
