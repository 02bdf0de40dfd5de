use Rattle.whole_check.proofs.TableLaws.{Typing}
use Rattle.whole_check.proofs.tables.types_pass.Given as goal

abbrev pub invariant-loop-k : goal.invariant-loop-k
invariant-loop-k l = Typing l.f l.frame l.offset l.count l.k l.later l.last
