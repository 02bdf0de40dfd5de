use Rattle.code_bodies.proofs.Laws.{Linking, Seeking}
use Rattle.code_bodies.proofs.links_at.Given as goal

abbrev pub invariant-loop-number : goal.invariant-loop-number
invariant-loop-number l = Seeking l.order l.s l.j l.first l.handlers l.from l.count l.k l.place l.i l.kept l.want l.p l.number

abbrev pub invariant-tries : goal.invariant-tries
invariant-tries l = Linking l.order l.s l.j l.first l.handlers l.from l.count l.k l.place l.i l.kept
