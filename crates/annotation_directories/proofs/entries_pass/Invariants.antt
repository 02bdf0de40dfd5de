use Rattle.annotation_directories.specs.Directories.{entry_at}
use Rattle.annotation_lists.proofs.Fixed.{Along}
use Rattle.annotation_directories.proofs.entries_pass.Given as goal

abbrev pub invariant-loop : goal.invariant-loop
invariant-loop l = Along (entry_at l.s l.frame l.item l.limit) l.s 8 l.from l.count l.counter l.at
