use Rattle.refusal.proofs.Laws.{handed_on}
use Rattle.encoded_value.proofs.Cycle.{cycle_laws as laws, name_stop, head_stop, inside_turn, inside_stop}
use Rattle.encoded_value.proofs.+bodies.Goals as goal

pub annotation_body-returns : goal.annotation_body-returns
annotation_body-returns t c = search laws

pub array_body-returns : goal.array_body-returns
array_body-returns t c = search laws

pub body_past-returns-then-left-le0 : goal.body_past-returns-then-left-le0
body_past-returns-then-left-le0 t c = search laws

pub inside_past-returns-in-28 : goal.inside_past-returns-in-28
inside_past-returns-in-28 t c = search laws

pub inside_past-returns-in_default : goal.inside_past-returns-in_default
inside_past-returns-in_default t c = search laws

pub opened_past-returns-in-28 : goal.opened_past-returns-in-28
opened_past-returns-in-28 t c = search laws

pub opened_past-returns-in_default : goal.opened_past-returns-in_default
opened_past-returns-in_default t c = search laws

pub values_past-overflow_add-at : goal.values_past-overflow_add-at
values_past-overflow_add-at t c = search laws

pub values_past-returns : goal.values_past-returns
values_past-returns t c = search laws

pub body_past-returns-in_err-from : goal.body_past-returns-in_err-from
body_past-returns-in_err-from t c = search laws

pub body_past-returns-in_err-count : goal.body_past-returns-in_err-count
body_past-returns-in_err-count t c = search laws

pub body_past-returns : goal.body_past-returns
body_past-returns t c = search laws

pub values_past-loop-init : goal.values_past-loop-init
values_past-loop-init t c = search laws

pub values_past-returns-in_err-at : goal.values_past-returns-in_err-at
values_past-returns-in_err-at t c = handed_on _ _ c.from_residual.ensures (name_stop c.loop.invariant c.loop-test.true c.in_err-at.ensures)

pub values_past-returns-in_err-head : goal.values_past-returns-in_err-head
values_past-returns-in_err-head t c = handed_on _ _ c.from_residual-in_err-head.ensures (head_stop c.loop.invariant c.loop-test.true c.in_ok-at.ensures c.in_err-head.ensures)

pub values_past-returns-in_err-p : goal.values_past-returns-in_err-p
values_past-returns-in_err-p t c = handed_on _ _ c.from_residual-in_err-p.ensures (inside_stop c.loop.invariant c.loop-test.true c.in_ok-at.ensures c.in_ok-head.ensures c.in_err-p.ensures)

pub values_past-loop-preserved : goal.values_past-loop-preserved
values_past-loop-preserved t c = inside_turn c.loop.invariant c.loop-test.true c.in_ok-at.ensures c.in_ok-head.ensures c.in_ok-p.ensures
