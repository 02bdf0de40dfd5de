-- What the functions' proofs cite: a report that was written fits the output that was lent for it, and what an input comes to.
-- Assumes nothing.
use Prim.Native.Nat.{ℕ, ◌≤◌}
use mathlib.Core.Path.{◌≡◌, sym}
use mathlib.Core.List.{List}
use lib.ListN.{length, take}
use lib.Seq.{length-take-le}
use borrow.Author.Rules.{rules}
use Rattle.report.specs.Stored.{written}
use Rattle.report.proofs.Laws.{got_within}
use Rattle.std.specs.Prelude.{Result}
use Rattle.refusal.specs.declared.Refusal.{Refusal}
use Rattle.refusal.specs.Outcome.{Outcome, answer}
use Rattle.header.specs.declared.Header.{Header}
use Rattle.verdict.specs.Answers.{verdict_outcome}
use Rattle.file_report.specs.Input.{input_at}
use Rattle.named_report.specs.Output.{status}
use Rattle.checking.specs.Status.{Tells, Comes, said, unsaid}

-- of the output as it is afterwards
pub within : (text before after : List ℕ) {k : ℕ} → answer k ≡ written text (length before) → length after ≡ length before → k ≤ length after
within text before after {k} e l = rw l (got_within text (length before) k e)

pub prefix_long : (text before after : List ℕ) {k : ℕ} → answer k ≡ written text (length before) → length after ≡ length before → k ≡ length (take k after)
prefix_long text before after {k} e l = sym (length-take-le k after (within text before after e l))

pub verdict_said : (o : Outcome Header) (s : ℕ) → s ≡ status o → Tells o s
verdict_said o s q = said q

pub nothing_said : (o : Outcome Header) (s : ℕ) → 2 ≤ s → Tells o s
nothing_said o s l = unsaid l

pub comes : (f : List ℕ) (v : Result Header Refusal) (s : ℕ) → verdict_outcome v ≡ input_at f → Tells (verdict_outcome v) s → Comes f s
comes f v s e t = record { tells = rw (← e) t }

pub ruleset laws = (within, prefix_long, verdict_said, nothing_said, comes, rules)
