use Rattle.refusal.proofs.Loops.{Numbers}
use Rattle.type_list.specs.TypeList.{entry_at}
use Rattle.type_list.proofs.all.Given as goal

abbrev pub invariant-loop-k : goal.invariant-loop-k
invariant-loop-k l = Numbers (entry_at l.s l.j) l.count l.k
