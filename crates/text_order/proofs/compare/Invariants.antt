use lib.ListN.{length}
use Rattle.text_order.proofs.Comparing.{Comparing}
use Rattle.text_order.proofs.compare.Given as goal

abbrev pub invariant-loop-x : goal.invariant-loop-x
invariant-loop-x l = Comparing l.a l.b (length l.yielded)
