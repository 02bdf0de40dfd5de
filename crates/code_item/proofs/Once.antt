-- What an answer of the code says, no other answer says: a contract `outcome r ≡ reading` allows one answer.
-- Assumes nothing.
use Prim.Native.Nat.{ℕ}
use mathlib.Core.Path.{◌≡◌, refl}
use Rattle.std.specs.Prelude.{Result}
use Rattle.std.specs.Prelude as S
use Rattle.refusal.specs.declared.Refusal.{Refusal}
use Rattle.refusal.proofs.Kept.{outcome_once, same_once, maybe_once, perhaps, perhaps_said}
use Rattle.handlers.specs.declared.Pair.{Pair}
use Rattle.code_item.specs.declared.Outline.{Outline}
use Rattle.code_item.specs.declared.NumberedTry as N
use Rattle.code_item.specs.declared.HandlerOutline as H
use Rattle.code_item.specs.Code.{Linked, Handed}
use Rattle.code_item.specs.Answers.{code_outcome, try_outcome, catch_meant, handler_outcome, pair_outcome, cover_outcome}

pub code_once : (x y : Result Outline Refusal) → code_outcome x ≡ code_outcome y → x ≡ y
code_once = same_once

pub try_once : (x y : Result N.NumberedTry Refusal) → try_outcome x ≡ try_outcome y → x ≡ y
try_once = outcome_once (λ (x : N.NumberedTry). record { attempt = x.attempt; number = x.number }) (λ (l : Linked). record { attempt = l.attempt; number = l.number }) (λ x. refl)

pub handler_once : (x y : Result H.HandlerOutline Refusal) → handler_outcome x ≡ handler_outcome y → x ≡ y
handler_once = outcome_once (λ (x : H.HandlerOutline). record { offset = x.offset; pairs = x.pairs; all = catch_meant x.all })
    (λ (h : Handed). record { offset = h.offset; pairs = h.pairs; all = perhaps (λ (a : ℕ). a) h.all })
    (λ x i. record { offset = x.offset; pairs = x.pairs; all = perhaps_said (λ (a : ℕ). a) (λ (a : ℕ). a) (λ a. refl) x.all i })

pub pair_once : (x y : Result Pair Refusal) → pair_outcome x ≡ pair_outcome y → x ≡ y
pair_once = same_once

pub cover_once : (x y : Result (S.Option ℕ) Refusal) → cover_outcome x ≡ cover_outcome y → x ≡ y
cover_once = maybe_once (λ (n : ℕ). n) (λ (n : ℕ). n) (λ n. refl)
