use Rattle.access_flags.proofs.Laws.{counting as laws}
use Rattle.access_flags.proofs.Laws.{counting_in, counting_out}
use Rattle.access_flags.proofs.count_of.Goals.{then-is_kept, else-is_kept}
use Rattle.access_flags.proofs.count_of.Goals as goal

pub loop-i-init : goal.loop-i-init
loop-i-init c = search laws

pub overflow_add-n : goal.overflow_add-n
overflow_add-n c = search laws

pub loop-i-preserved : goal.loop-i-preserved
loop-i-preserved c = elim c.if-is_kept.branch [
  | then-is_kept w ↦ rw w.n-is (counting_in c.loop-i.invariant c.loop-i-test.true c.is_kept.ensures w.if-is_kept.true)
  | else-is_kept w ↦ rw w.n-is (counting_out c.loop-i.invariant c.loop-i-test.true c.is_kept.ensures w.if-is_kept.false)
]

pub returns : goal.returns
returns c = search laws
