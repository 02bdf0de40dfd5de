-- What the answers of the code say.
use Rattle.std.proofs.Math.Option.{Option}
use Rattle.refusal.specs.Outcome.{Outcome}
use Rattle.annotation_directories.specs.declared.DirectoryHead.{DirectoryHead}
use Rattle.directory_readers.specs.declared.Reached.{Reached}
use Rattle.std.specs.Prelude as S
use Rattle.std.specs.Prelude.{Result}
use Rattle.refusal.specs.Answers.{maybe, outcome}
use Rattle.refusal.specs.declared.Refusal.{Refusal}

abbrev pub reached_outcome : Result Reached Refusal → Outcome Reached
reached_outcome = outcome (λ (p : Reached). p)

abbrev pub directory_outcome : Result (S.Option DirectoryHead) Refusal → Outcome (Option DirectoryHead)
directory_outcome = outcome (maybe (λ (h : DirectoryHead). h))
