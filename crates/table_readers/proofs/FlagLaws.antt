-- What the proof of the reader of flags cites.
-- Assumes nothing.
use Prim.Native.Nat.{ℕ}
use mathlib.Core.Path.{◌≡◌, ap, ◌∙◌}
use mathlib.Core.Bool.{true}
use mathlib.Core.List.{List}
use borrow.Author.Rules.{rules}
use Rattle.refusal.specs.declared.Refusal.{Refusal}
use Rattle.refusal.specs.Outcome.{Outcome, answer, refused}
use Rattle.refusal.proofs.Laws.{calls}
use Rattle.access_flags.specs.Flags.{content}
use Rattle.class_ids.specs.declared.Class.{Class}
use Rattle.table_readers.specs.Tables.{class_number}
use Rattle.table_readers.specs.Flags.{content_of, class_content}

module _ (f : List ℕ) (n : ℕ) (out : List ℕ) where
  pub content_kept : {r : Refusal} → refused r ≡ class_number f n → out ≡ class_content f n out
  unfolding class_content content_of
  content_kept e = ap (λ (o : Outcome Class). content_of o out) e

  pub content_written : {c : Class} {l : List ℕ} → answer c ≡ class_number f n → l ≡ content true c.flags out → l ≡ class_content f n out
  unfolding class_content content_of
  content_written e q = q ∙ ap (λ (o : Outcome Class). content_of o out) e

pub ruleset laws = (content_kept, content_written, calls, rules)
