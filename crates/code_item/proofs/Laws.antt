-- What the functions' proofs cite: the readings from what is kept of a code item.
-- Assumes nothing.
use Prim.Native.Nat.{ℕ}
use mathlib.Core.Path.{◌≡◌, refl, ◌∙◌}
use mathlib.Core.Option.{Option, none, some}
use mathlib.Core.List.{List}
use lib.ListN.{length, get_or}
use lib.Dec.{ltb}
use borrow.Author.Rules.{rules}
use Rattle.refusal.specs.Refusals.{not_there}
use Rattle.refusal.specs.Outcome.{Outcome, answer, ◌>>=◌, given}
use Rattle.refusal.proofs.Laws.{tests, calls, passes}
use Rattle.refusal.proofs.Rows.{bind_assoc}
use Rattle.frame.specs.declared.Frame.{Frame}
use Rattle.handlers.specs.declared.Pair.{Pair}
use Rattle.handlers.specs.Handlers as H
use Rattle.code_bodies.specs.Code.{Code, code_at, KeptCode, kept, kept_code_at}
use Rattle.code_item.specs.declared.Outline.{Outline}
use Rattle.code_item.specs.Code.{outline_at, Linked, try_of, Handed, handler_of, pair_of, pair_in}
use Rattle.code_item.specs.Answers.{catch_meant}

module _ (s : List ℕ) (f : Frame) (item : ℕ) where
  pub outline_by : {y : Outcome Outline} → y ≡ (kept_code_at s f item 0 0 0 >>= λ (c : KeptCode). answer (record { head = c.head; handlers = c.handlers; from = c.from; base = c.base; end = c.end })) → y ≡ outline_at s f item
  unfolding outline_at kept_code_at ◌>>=◌
  outline_by e = e ∙ bind_assoc (code_at s f item) (kept 0 0 0) _

  pub try_of_by : (t : ℕ) {y : Outcome Linked} → y ≡ (kept_code_at s f item t 0 0 >>= λ (c : KeptCode). given (ltb t c.head.tries) not_there (answer (record { attempt = c.attempt; number = c.link }))) → y ≡ try_of s f item t
  unfolding try_of kept_code_at ◌>>=◌
  try_of_by t e = e ∙ bind_assoc (code_at s f item) (kept t 0 0) _

  pub handler_of_by : (h : ℕ) {y : Outcome Handed}
      → y ≡ (kept_code_at s f item 0 h 0 >>= λ (c : KeptCode). given (ltb h c.handlers) not_there (answer (record { offset = c.brief.offset; pairs = c.brief.pairs; all = catch_meant c.brief.all }))) → y ≡ handler_of s f item h
  unfolding handler_of kept_code_at ◌>>=◌
  handler_of_by h e =
      e ∙ bind_assoc (code_at s f item) (kept 0 h 0) _
      ∙ λ i. code_at s f item >>= λ (c : Code). given (ltb h (length c.handlers.handlers)) not_there (answer (record {
        offset = (get_or c.handlers.handlers h H.nobody).offset;
        pairs = length (get_or c.handlers.handlers h H.nobody).pairs;
        all = caught (get_or c.handlers.handlers h H.nobody).all i;
      }))
    where
      caught : (o : Option ℕ) → catch_meant (H.caught_in o) ≡ o
      caught none = refl
      caught (some a) = refl

  pub pair_of_by : (h k : ℕ) {y : Outcome Pair} → y ≡ (kept_code_at s f item 0 h k >>= λ (c : KeptCode). given (ltb h c.handlers) not_there (pair_in c.brief k)) → y ≡ pair_of s f item h k
  unfolding pair_of kept_code_at pair_in ◌>>=◌
  pair_of_by h k e = e ∙ bind_assoc (code_at s f item) (kept 0 h k) _

pub ruleset part_laws = (calls, tests, rules)

pub ruleset answer_laws = (outline_by, try_of_by, handler_of_by, pair_of_by, calls, tests, rules)
