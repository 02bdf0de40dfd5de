use mathlib.Core.Path.{◌≡◌, sym, ◌∙◌}
use Rattle.refusal.proofs.Laws.{handed_on, walk_next, walk_stop}
use Rattle.encoded_value.specs.Depth.{deepest_value}
use Rattle.encoded_value.specs.Readings.{past_value}
use Rattle.encoded_value.specs.Stages.{past_inner}
use Rattle.value_bodies.proofs.Laws.{past_laws as laws, name_stop, behind_name, no_name}
use Rattle.value_bodies.proofs.past.Goals as goal
use Rattle.value_bodies.proofs.past.Goals.{then-named+in_ok-index_at, else-named}

pub returns-in_err-index_at : goal.returns-in_err-index_at
returns-in_err-index_at c = handed_on _ _ c.from_residual.ensures (name_stop c.args.s.now c.args.w deepest_value c.loop.invariant c.loop-test.true c.if-named.true c.in_err-index_at.ensures)

pub returns-in_err-p : goal.returns-in_err-p
returns-in_err-p c =
    let inner : past_inner c.args.s.now c.args.w c.args.named deepest_value c.loop.p ≡ past_value c.args.s.now c.args.w deepest_value c.if-named.at = elim c.if-named.branch [
      | then-named+in_ok-index_at w ↦ behind_name c.args.s.now c.args.w deepest_value c.loop.p w.if-named.true w.in_ok-index_at.ensures w.at-is
      | else-named w ↦ no_name c.args.s.now c.args.w deepest_value c.loop.p w.if-named.false w.at-is
    ] in
    handed_on _ _ c.from_residual-in_err-p.ensures (walk_stop c.loop.invariant c.loop-test.true (c.in_err-p.ensures ∙ sym inner))

pub loop-preserved : goal.loop-preserved
loop-preserved c =
    let inner : past_inner c.args.s.now c.args.w c.args.named deepest_value c.loop.p ≡ past_value c.args.s.now c.args.w deepest_value c.if-named.at = elim c.if-named.branch [
      | then-named+in_ok-index_at w ↦ behind_name c.args.s.now c.args.w deepest_value c.loop.p w.if-named.true w.in_ok-index_at.ensures w.at-is
      | else-named w ↦ no_name c.args.s.now c.args.w deepest_value c.loop.p w.if-named.false w.at-is
    ] in
    walk_next c.loop.invariant c.loop-test.true (c.in_ok-p.ensures ∙ sym inner)

pub returns : goal.returns
returns c = search laws
