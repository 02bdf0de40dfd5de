use Rattle.std.proofs.Common.{[], ◌∷◌, length-append, ◌∙◌}
use Rattle.std.proofs.lemmas.Slice.Zip.{zip_turn, zip_end}
use Rattle.text_order.proofs.Comparing.{laws, comparing_next, comparing_other, comparing_over}
use Rattle.text_order.proofs.compare.Goals as goal

pub loop-x-init : goal.loop-x-init
loop-x-init c = search laws

pub returns-then-x-y : goal.returns-then-x-y
returns-then-x-y c =
    let t = zip_turn c.args.a.now c.args.b.now c.loop-x.yielded c.into_iter-x-iterator.result c.loop-x.x-iterator c.next.new.self c.next.result (cc) (cc) c.loop-x.yielded_by _ c.in-Some.is c.next.ensures.steps in
    c.earlier_of.ensures ∙ comparing_other c.loop-x.invariant t.0 t.1 (t.2 0) (t.3 0) c.if-x-y.true

pub loop-x-preserved : goal.loop-x-preserved
loop-x-preserved c =
    let t = zip_turn c.args.a.now c.args.b.now c.loop-x.yielded c.into_iter-x-iterator.result c.loop-x.x-iterator c.next.new.self c.next.result (cc) (cc) c.loop-x.yielded_by _ c.in-Some.is c.next.ensures.steps in
    rw (length-append c.loop-x.yielded ((c.in-Some.x, c.in-Some.y) ∷ [])) (comparing_next c.loop-x.invariant t.0 t.1 (t.2 0) (t.3 0) c.if-x-y.false)

pub returns : goal.returns
returns c =
    let t = zip_end c.args.a.now c.args.b.now c.loop-x.yielded c.into_iter-x-iterator.result c.loop-x.x-iterator c.next.new.self c.next.result (cc) (cc) c.loop-x.yielded_by c.in-None.is c.next.ensures.steps in
    c.cmp.ensures ∙ comparing_over c.loop-x.invariant t
