-- The reading of the whole file finds exactly what the rules allow.
-- Assumes nothing.
use Prim.Native.Nat.{ℕ}
use mathlib.Core.Path.{refl, subst}
use mathlib.Core.List.{List}
use Rattle.refusal.specs.Exact.{Exact}
use Rattle.refusal.proofs.Exact.{answer_exact, bind_exact, exact_iff}
use Rattle.refusal.proofs.Each.{every_exact}
use Rattle.header.specs.declared.Header.{Header}
use Rattle.header.specs.Header.{frame_of, plain_frame}
use Rattle.header.proofs.Exactly.{header_exact}
use Rattle.map_list.proofs.Exactly.{map_exact}
use Rattle.string_ids.proofs.Exactly.{strings_exact}
use Rattle.ids.specs.Rules.{MemberIdRule, HandleRule}
use Rattle.type_list.proofs.Exactly.{types_below_exact}
use Rattle.ids.proofs.Exactly.{types_exact, proto_exact, member_exact, handle_exact}
use Rattle.class_walk.specs.Classes.{class_below}
use Rattle.class_walk.specs.Rules.{ClassBelowRule}
use Rattle.class_walk.proofs.Exactly as C
use Rattle.whole_check.specs.File.{proto_below, field_at, method_at, handle_in, tables_at, file_at}
use Rattle.promises.specs.Reads.{ProtoBelowRule, Reads}

pub proto_below_exact : (f : List ℕ) (h : Header) (n : ℕ) → Exact (proto_below f h n) (ProtoBelowRule f h n)
unfolding proto_below
proto_below_exact f h n =
    exact_iff (bind_exact _ _ (proto_exact f (plain_frame h) h.protos.offset h.end n) (λ p. bind_exact _ _ (types_below_exact f h p.parameters) (λ l. answer_exact _)))
    (λ b p. subst (ProtoBelowRule f h n) p.1.1.1.1 (record { own = p.1.0; parameters = p.1.1.1.0 }))
    (λ b p. (b.own, (p.own, (b.parameters, (p.parameters, refl)))))

pub file_exact : (f : List ℕ) → Exact (file_at f) (Reads f)
unfolding file_at tables_at
file_exact f =
    exact_iff (bind_exact _ _ (header_exact f) (λ h. bind_exact _ _ (map_exact f h) (λ m.
    bind_exact _ _ (strings_exact f h) (λ s.
    bind_exact _ _ (types_exact f (plain_frame h) h.types.offset h.types.count) (λ t.
    bind_exact _ _ (every_exact (ProtoBelowRule f h) (proto_below f h) (proto_below_exact f h) h.protos.count) (λ p.
    bind_exact _ _ (every_exact (MemberIdRule f (plain_frame h) h.types.count h.fields.offset) (field_at f h) (member_exact f (plain_frame h) h.fields.offset h.types.count) h.fields.count) (λ x.
    bind_exact _ _ (every_exact (MemberIdRule f (plain_frame h) h.protos.count h.methods.offset) (method_at f h) (member_exact f (plain_frame h) h.methods.offset h.protos.count) h.methods.count) (λ y.
    bind_exact _ _ (every_exact (HandleRule f (frame_of h m.handles.count) m.handles.offset) (handle_in f h m) (handle_exact f (frame_of h m.handles.count) m.handles.offset) m.handles.count) (λ z.
    bind_exact _ _ (every_exact (ClassBelowRule f h m.handles.count) (class_below f h m.handles.count) (C.class_below_exact f h m.handles.count) h.classes.count) (λ c.
    answer_exact _))))))))))
    (λ r q. subst (Reads f) q.1.1.1.1.1.1.1.1.1.1.1.1.1.1.1.1.1.1 (record {
      header = q.1.0;
      map = q.1.1.1.0;
      strings = q.1.1.1.1.1.0;
      types = q.1.1.1.1.1.1.1.0;
      protos = q.1.1.1.1.1.1.1.1.1.0;
      fields = q.1.1.1.1.1.1.1.1.1.1.1.0;
      methods = q.1.1.1.1.1.1.1.1.1.1.1.1.1.0;
      handles = q.1.1.1.1.1.1.1.1.1.1.1.1.1.1.1.0;
      classes = q.1.1.1.1.1.1.1.1.1.1.1.1.1.1.1.1.1.0;
    }))
    (λ r q. (r.header, (q.header, (r.map, (q.map, (r.strings, (q.strings, (r.types, (q.types, (r.protos, (q.protos, (r.fields, (q.fields, (r.methods, (q.methods, (r.handles, (q.handles, (r.classes, (q.classes, refl)))))))))))))))))))
