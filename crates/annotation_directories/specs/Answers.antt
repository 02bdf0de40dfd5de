-- What the answers of the code say.
use Rattle.refusal.specs.Outcome.{Outcome}
use Rattle.annotation_directories.specs.declared.DirectoryHead.{DirectoryHead}
use Rattle.annotation_directories.specs.Directories.{DirectoryEntry}
use Rattle.std.specs.Prelude.{Result}
use Rattle.refusal.specs.Answers.{outcome}
use Rattle.refusal.specs.declared.Refusal.{Refusal}
use Rattle.annotation_directories.specs.declared.DirectoryEntry as D

abbrev pub directory_entry_outcome : Result D.DirectoryEntry Refusal → Outcome DirectoryEntry
directory_entry_outcome = outcome (λ (x : D.DirectoryEntry). record { index = x.index; offset = x.offset })

abbrev pub directory_head_outcome : Result DirectoryHead Refusal → Outcome DirectoryHead
directory_head_outcome = outcome (λ (h : DirectoryHead). h)
