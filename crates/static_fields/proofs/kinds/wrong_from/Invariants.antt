use Rattle.static_fields.proofs.KindLaws.{Seeking}
use Rattle.static_fields.proofs.kinds.wrong_from.Given as goal

abbrev pub invariant-loop-k : goal.invariant-loop-k
invariant-loop-k l = Seeking l.f l.header l.handles l.data l.values l.from l.first l.count l.s l.judge l.p l.base l.later l.q l.k
