use Rattle.refusal.proofs.Loops.{Numbers}
use Rattle.class_walk.specs.Classes.{class_below}
use Rattle.whole_check.proofs.tables.classes_pass.Given as goal

abbrev pub invariant-loop-k : goal.invariant-loop-k
invariant-loop-k l = Numbers (class_below l.f l.header l.handles) l.count l.k
