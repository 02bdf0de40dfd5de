use Rattle.refusal.proofs.Loops.{Numbers}
use Rattle.whole_check.specs.File.{proto_below}
use Rattle.whole_check.proofs.tables.protos_pass.Given as goal

abbrev pub invariant-loop-k : goal.invariant-loop-k
invariant-loop-k l = Numbers (proto_below l.f l.header) l.count l.k
