use Rattle.text.proofs.Laws.{Head}
use lib.ListN.{length}
use Prim.Native.Nat.{◌-◌}
use Rattle.text.proofs.count_at.Given as goal

abbrev pub invariant-loop-p : goal.invariant-loop-p
invariant-loop-p l = Head l.s l.item l.start l.p l.units

abbrev pub decreases-loop-p : goal.decreases-loop-p
decreases-loop-p l = length l.s - l.p
