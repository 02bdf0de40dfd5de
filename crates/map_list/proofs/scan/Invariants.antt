use Rattle.map_list.proofs.Laws.{Scanning}
use lib.ListN.{length}
use mathlib.Core.Path.{◌≡◌}
use Rattle.map_list.proofs.scan.Given as goal

abbrev pub invariant-loop : goal.invariant-loop
invariant-loop l = Scanning l.s l.j l.from l.count l.counter l.place l.floor l.seen l.handles × (length l.seen ≡ 21)
