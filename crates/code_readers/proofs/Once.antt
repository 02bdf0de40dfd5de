-- What an answer of the code says, no other answer says: a contract `meaning of the answer ≡ reading` allows one answer.
-- Assumes nothing.
use Prim.Native.Nat.{ℕ}
use mathlib.Core.Path.{◌≡◌, refl}
use Rattle.refusal.proofs.Kept.{maybe_once, perhaps, perhaps_said}
use Rattle.handlers.specs.declared.Pair.{Pair}
use Rattle.code_item.specs.declared.Outline.{Outline}
use Rattle.code_item.specs.Code.{Linked, Handed}
use Rattle.code_item.specs.Answers.{catch_meant}
use Rattle.std.specs.Prelude as S
use Rattle.std.specs.Prelude.{Result}
use Rattle.refusal.specs.declared.Refusal.{Refusal}
use Rattle.code_item.specs.declared.NumberedTry as N
use Rattle.code_item.specs.declared.HandlerOutline as H
use Rattle.code_readers.specs.Answers.{maybe_code, maybe_try, maybe_handler, maybe_pair}

pub code_once : (x y : Result (S.Option Outline) Refusal) → maybe_code x ≡ maybe_code y → x ≡ y
code_once = maybe_once (λ (o : Outline). o) (λ (o : Outline). o) (λ o. refl)

pub try_once : (x y : Result (S.Option N.NumberedTry) Refusal) → maybe_try x ≡ maybe_try y → x ≡ y
try_once = maybe_once (λ (x : N.NumberedTry). record { attempt = x.attempt; number = x.number }) (λ (r : Linked). record { attempt = r.attempt; number = r.number }) (λ x. refl)

pub handler_once : (x y : Result (S.Option H.HandlerOutline) Refusal) → maybe_handler x ≡ maybe_handler y → x ≡ y
handler_once = maybe_once (λ (x : H.HandlerOutline). record { offset = x.offset; pairs = x.pairs; all = catch_meant x.all })
    (λ (h : Handed). record { offset = h.offset; pairs = h.pairs; all = perhaps (λ (a : ℕ). a) h.all })
    (λ x i. record { offset = x.offset; pairs = x.pairs; all = perhaps_said (λ (a : ℕ). a) (λ (a : ℕ). a) (λ a. refl) x.all i })

pub pair_once : (x y : Result (S.Option Pair) Refusal) → maybe_pair x ≡ maybe_pair y → x ≡ y
pair_once = maybe_once (λ (p : Pair). p) (λ (p : Pair). p) (λ p. refl)
