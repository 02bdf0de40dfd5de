use Rattle.refusal.proofs.Loops.{Numbers}
use Rattle.ids.specs.Records.{handle_at}
use Rattle.whole_check.proofs.tables.handles_pass.Given as goal

abbrev pub invariant-loop-k : goal.invariant-loop-k
invariant-loop-k l = Numbers (handle_at l.f l.frame l.offset) l.count l.k
