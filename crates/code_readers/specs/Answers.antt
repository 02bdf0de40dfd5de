-- What the answers of the code say: where there is no code, none.
use Rattle.std.proofs.Math.Option.{Option}
use Rattle.refusal.specs.Outcome.{Outcome}
use Rattle.handlers.specs.declared.Pair.{Pair}
use Rattle.code_item.specs.declared.Outline.{Outline}
use Rattle.code_item.specs.Code.{Linked, Handed}
use Rattle.code_item.specs.Answers.{catch_meant}
use Rattle.std.specs.Prelude as S
use Rattle.std.specs.Prelude.{Result}
use Rattle.refusal.specs.Answers.{maybe, outcome}
use Rattle.refusal.specs.declared.Refusal.{Refusal}
use Rattle.code_item.specs.declared.NumberedTry as N
use Rattle.code_item.specs.declared.HandlerOutline as H

abbrev pub maybe_code : Result (S.Option Outline) Refusal → Outcome (Option Outline)
maybe_code = outcome (maybe (λ (o : Outline). o))

abbrev pub maybe_try : Result (S.Option N.NumberedTry) Refusal → Outcome (Option Linked)
maybe_try = outcome (maybe (λ (x : N.NumberedTry). record { attempt = x.attempt; number = x.number }))

abbrev pub maybe_handler : Result (S.Option H.HandlerOutline) Refusal → Outcome (Option Handed)
maybe_handler = outcome (maybe (λ (x : H.HandlerOutline). record { offset = x.offset; pairs = x.pairs; all = catch_meant x.all }))

abbrev pub maybe_pair : Result (S.Option Pair) Refusal → Outcome (Option Pair)
maybe_pair = outcome (maybe (λ (p : Pair). p))
