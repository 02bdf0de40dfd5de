use Rattle.access_flags.proofs.Laws.{filling as laws}
use Rattle.access_flags.proofs.Laws.{filling_in, filling_out}
use Rattle.access_flags.proofs.fill.Goals.{then-is_kept, else-is_kept}
use Rattle.access_flags.proofs.fill.Goals as goal

pub loop-i-init : goal.loop-i-init
loop-i-init c = search laws

pub bounds-out-p : goal.bounds-out-p
bounds-out-p c = search laws

pub overflow_add-p : goal.overflow_add-p
overflow_add-p c = search laws

pub loop-i-preserved : goal.loop-i-preserved
loop-i-preserved c = elim c.if-is_kept.branch [
  | then-is_kept w ↦ rw (w.out-is, w.p-is) (filling_in c.loop-i.invariant c.loop-i-test.true c.is_kept.ensures w.if-is_kept.true)
  | else-is_kept w ↦ rw (w.out-is, w.p-is) (filling_out c.loop-i.invariant c.loop-i-test.true c.is_kept.ensures w.if-is_kept.false)
]

pub returns : goal.returns
returns c = search laws
