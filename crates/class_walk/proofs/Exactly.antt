-- A class with all below it is read exactly where the rules allow it, and there is one answer.
-- Assumes nothing.
use Prim.Native.Nat.{ℕ, ◌+◌, ◌*◌, ◌≤◌}
use mathlib.Core.Path.{◌≡◌, refl, subst}
use mathlib.Core.List.{List}
use Rattle.refusal.specs.Refusals.{too_many_values}
use Rattle.refusal.specs.Exact.{Exact, Present}
use Rattle.refusal.proofs.Exact.{same, answer_exact, given_exact, bind_exact, exact_iff, present_exact, at_most}
use Rattle.refusal.proofs.Through.{through_exact}
use Rattle.frame.specs.declared.Frame.{Frame}
use Rattle.header.specs.declared.Header.{Header}
use Rattle.header.specs.Header.{up_to_end, frame_of, plain_frame}
use Rattle.type_list.specs.Rules.{TypesBelowRule}
use Rattle.type_list.proofs.Exactly.{types_below_exact}
use Rattle.class_ids.specs.declared.Class.{Class}
use Rattle.class_ids.specs.Rules.{ClassRule}
use Rattle.class_ids.proofs.Exactly.{class_exact}
use Rattle.class_members.specs.declared.Member.{Member}
use Rattle.class_data.proofs.Exactly.{data_exact}
use Rattle.code_bodies.proofs.Exactly.{code_exact}
use Rattle.debug_info.proofs.Exactly.{debug_exact}
use Rattle.value_heads.specs.declared.Walk.{Walk}
use Rattle.value_heads.specs.Kinds.{walk_of}
use Rattle.encoded_value.proofs.Exactly.{array_rule_exact}
use Rattle.annotation_walk.specs.Rules.{DirectoryBelow}
use Rattle.annotation_walk.proofs.Exactly.{directory_below_exact}
use Rattle.class_walk.specs.Methods.{body_at, method_below, data_below}
use Rattle.class_walk.specs.Classes.{ClassBelow, static_count, value_count, fitting, values_at, annotations_at, data_at, statics_at, below, class_below}
use Rattle.class_walk.specs.Rules.{BodyRule, MethodRule, DataBelowRule, ValuesRule, ClassBelowRule}

module _ (s : List ℕ) (f : Frame) where
  pub body_exact : (item : ℕ) → Exact (body_at s f item) (BodyRule s f item)
  unfolding body_at
  body_exact item =
      exact_iff (bind_exact _ _ (code_exact s f item) (λ c. bind_exact _ _ (present_exact c.head.debug (debug_exact s f.strings c.head.debug)) (λ d. answer_exact _)))
      (λ b h. subst (BodyRule s f item) h.1.1.1.1 (record { code = h.1.0; debug = h.1.1.1.0 }))
      (λ b h. (b.code, (h.code, (b.debug, (h.debug, refl)))))

  pub method_exact : (m : Member) → Exact (method_below s f m) (MethodRule s f m)
  unfolding method_below
  method_exact m = present_exact m.code (body_exact m.code)

  pub data_below_exact : (item : ℕ) → Exact (data_below s f item) (DataBelowRule s f item)
  unfolding data_below
  data_below_exact item =
      exact_iff (bind_exact _ _ (data_exact s f item) (λ d.
      bind_exact _ _ (through_exact (method_below s f) (MethodRule s f) method_exact d.directs) (λ x.
      bind_exact _ _ (through_exact (method_below s f) (MethodRule s f) method_exact d.virtuals) (λ y. answer_exact _))))
      (λ b h. subst (DataBelowRule s f item) h.1.1.1.1.1.1 (record { members = h.1.0; directs = h.1.1.1.0; virtuals = h.1.1.1.1.1.0 }))
      (λ b h. (b.members, (h.members, (b.directs, (h.directs, (b.virtuals, (h.virtuals, refl)))))))

pub values_exact : (s : List ℕ) (w : Walk) (p : ℕ) → Exact (values_at s w p) (ValuesRule s w p)
unfolding values_at
values_exact s w p =
    exact_iff (bind_exact _ _ (array_rule_exact s w p) (λ a. answer_exact a.item))
    (λ l h. subst (ValuesRule s w p) h.1.1 (record { ends = h.0.next; body = h.1.0 }))
    (λ l h. (record { item = l; next = h.ends }, (h.body, refl)))

-- what the four offsets of a class lead to
pub record Led (f : List ℕ) (h : Header) (handles : ℕ) (c : Class) (b : ClassBelow) : Type 0 where
  pub own : c ≡ b.own
  pub interfaces : TypesBelowRule f h c.interfaces b.interfaces
  pub annotations : Present (DirectoryBelow (up_to_end f h) (frame_of h handles) c.directory) c.directory b.annotations
  pub members : Present (DataBelowRule (up_to_end f h) (plain_frame h) c.«data») c.«data» b.members
  pub values : Present (ValuesRule (up_to_end f h) (walk_of (frame_of h handles) c.values) c.values) c.values b.values

pub led_exact : (f : List ℕ) (h : Header) (handles : ℕ) (c : Class) → Exact (below f h handles c) (Led f h handles c)
unfolding below annotations_at data_at statics_at
led_exact f h handles c =
    exact_iff (
    bind_exact _ _ (types_below_exact f h c.interfaces) (λ i.
    bind_exact _ _ (present_exact c.directory (directory_below_exact (up_to_end f h) (frame_of h handles) c.directory)) (λ a.
    bind_exact _ _ (present_exact c.«data» (data_below_exact (up_to_end f h) (plain_frame h) c.«data»)) (λ d.
    bind_exact _ _ (present_exact c.values (values_exact (up_to_end f h) (walk_of (frame_of h handles) c.values) c.values)) (λ v. answer_exact _)))))
    (λ b p. subst (Led f h handles c) p.1.1.1.1.1.1.1.1
    (record { own = refl; interfaces = p.1.0; annotations = p.1.1.1.0; members = p.1.1.1.1.1.0; values = p.1.1.1.1.1.1.1.0 }))
    (λ b p. (b.interfaces, (p.interfaces, (b.annotations, (p.annotations, (b.members, (p.members, (b.values, (p.values, λ i. record { own = p.own i; interfaces = b.interfaces; annotations = b.annotations; members = b.members; values = b.values })))))))))

module _ (f : List ℕ) (h : Header) (handles n : ℕ) where
  pub class_below_exact : Exact (class_below f h handles n) (ClassBelowRule f h handles n)
  unfolding class_below fitting
  class_below_exact =
      exact_iff (bind_exact _ _ (class_exact f (plain_frame h) h.end h.classes.offset n) (λ c.
      bind_exact _ _ (led_exact f h handles c) (λ b.
      given_exact (too_many_values (h.classes.offset + 32 * n)) (at_most (value_count b.values) (static_count b.members)) (answer_exact b))))
      (λ b p.
      let led = subst (Led f h handles p.0) p.1.1.1.1.1 p.1.1.1.0 in
      let fits = subst (λ (x : ClassBelow). value_count x.values ≤ static_count x.members) p.1.1.1.1.1 p.1.1.1.1.0 in
      ruled b p.0 p.1.0 led fits)
      (λ b p. (b.own, (p.own, (b, (record { own = refl; interfaces = p.interfaces; annotations = p.annotations; members = p.members; values = p.values }, (p.fits, refl))))))
    where
      ruled : (b : ClassBelow) (c : Class) → ClassRule f (plain_frame h) h.end h.classes.offset n c → Led f h handles c b → value_count b.values ≤ static_count b.members → ClassBelowRule f h handles n b
      ruled b c own led fits = record {
        own = subst (ClassRule f (plain_frame h) h.end h.classes.offset n) led.own own;
        interfaces = subst (λ (x : Class). TypesBelowRule f h x.interfaces b.interfaces) led.own led.interfaces;
        annotations = subst (λ (x : Class). Present (DirectoryBelow (up_to_end f h) (frame_of h handles) x.directory) x.directory b.annotations) led.own led.annotations;
        members = subst (λ (x : Class). Present (DataBelowRule (up_to_end f h) (plain_frame h) x.«data») x.«data» b.members) led.own led.members;
        values = subst (λ (x : Class). Present (ValuesRule (up_to_end f h) (walk_of (frame_of h handles) x.values) x.values) x.values b.values) led.own led.values;
        fits = fits;
      }

  pub class_below_same : (a b : ClassBelow) → ClassBelowRule f h handles n a → ClassBelowRule f h handles n b → a ≡ b
  class_below_same = same class_below_exact
