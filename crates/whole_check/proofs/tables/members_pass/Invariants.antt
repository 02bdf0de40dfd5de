use Rattle.refusal.proofs.Loops.{Numbers}
use Rattle.ids.specs.Records.{member_id_at}
use Rattle.whole_check.proofs.tables.members_pass.Given as goal

abbrev pub invariant-loop-k : goal.invariant-loop-k
invariant-loop-k l = Numbers (member_id_at l.f l.frame l.kinds l.offset) l.count l.k
