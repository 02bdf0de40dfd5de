-- In a file of which a reading is known no index into a table is out of range.
-- Assumes nothing.
use Prim.Native.Nat.{ℕ, ◌<◌}
use mathlib.Core.Path.{◌≡◌, refl, sym, subst, ◌∙◌}
use mathlib.Core.Logic.{◌⊎◌, inl, inr}
use mathlib.Core.Bool.{Bool, true, false, cond, false≢true}
use mathlib.Core.Option.{Option, none, some}
use mathlib.Core.List.{List, []}
use lib.Dec.{eqb}
use borrow.Author.Tests.{eq-eqb}
use native.Mathlib.Omega.{arith}
use Rattle.refusal.specs.Exact.{Present, absent, found_there, Row, empty, first, here, there, Alike}
use Rattle.refusal.proofs.Each.{at_below, at_some}
use Rattle.header.specs.Header.{up_to_end, plain_frame}
use Rattle.class_ids.specs.declared.Class.{Class}
use Rattle.std.specs.Prelude.{Some, None}
use Rattle.class_ids.specs.Classes.{maybe_of}
use Rattle.class_ids.specs.Rules.{IndexOrNone}
use Rattle.class_members.specs.declared.Member as M
use Rattle.class_members.specs.declared.MemberJudge.{MemberJudge}
use Rattle.class_members.specs.Rules.{MembersRule}
use Rattle.handlers.specs.declared.Pair.{Pair}
use Rattle.handlers.specs.Handlers.{Handler, HandlerList}
use Rattle.handlers.specs.Rules.{HandlersRule}
use Rattle.code_bodies.specs.Code.{Code, judge_of}
use Rattle.code_bodies.specs.Rules.{CodeRule}
use Rattle.debug_info.specs.Debug.{Debug}
use Rattle.debug_info.specs.Rules.{Named}
use Rattle.class_walk.specs.Methods.{Body, DataBelow}
use Rattle.class_walk.specs.Classes.{ClassBelow}
use Rattle.type_list.specs.Rules.{TypesBelowRule}
use Rattle.class_walk.specs.Rules.{BodyRule, MethodRule, DataBelowRule, ClassBelowRule}
use Rattle.whole_check.specs.File.{File}
use Rattle.promises.specs.Reads.{Reads}
use Rattle.promises.specs.Tables.{listed}
use Rattle.promises.specs.Numbers.{IfThere, IfGiven}
use Rattle.promises.proofs.InRange.{All, String, Kind, Field, Method, BodyIndices, DataIndices, ClassIndices, Indices}

-- ---- what holds of each step holds of each item of a row
pub all_none : {A : Type 0} (P : A → Type 0) → All P []
all_none P k a m = absurd (let z = at_below m in omega arith)

row_all : {A S : Type 0} {Step : S → A → S → Type 0} (P : A → Type 0) → ((s : S) (a : A) (t : S) → Step s a t → P a) → {n : ℕ} {s u : S} {l : List A} → Row Step n s l u → All P l
row_all P step empty k a m = all_none P k a m
row_all P step (first h r) k a here = step _ a _ h
row_all P step (first h r) k a (there m) = row_all P step r _ a m

pub if_present : {A : Type 0} {Rule : A → Type 0} (P : A → Type 0) → ((a : A) → Rule a → P a) → {at : ℕ} {o : Option A} → Present Rule at o → IfThere P o
if_present P holds (absent e) = tt
if_present P holds (found_there {a = a} p rule) = holds a rule

-- of two lists whose items of one number go together, the second
pub alike_all : {A B : Type 0} {Rule : A → B → Type 0} (P : B → Type 0) → ((a : A) (b : B) → Rule a b → P b) → (l : List A) (m : List B) → Alike Rule l m → All P m
alike_all P holds l m both k b place =
    let size = both.count in
    let low = at_below place in
    let x = at_some l k (omega arith) in
    holds x.0 b (both.each x.1 place)

given_below : (P : ℕ → Type 0) (v count : ℕ) → IndexOrNone v count → (v < count → P v) → IfGiven P (maybe_of v)
unfolding maybe_of
given_below P v count h low = go (eqb v 0xffffffff) refl h
  where
    go : (b : Bool) → eqb v 0xffffffff ≡ b → IndexOrNone v count → IfGiven P (cond b None (Some v))
    go true t i = tt
    go false t (inl e) = absurd (false≢true (sym t ∙ eq-eqb v 0xffffffff e))
    go false t (inr p) = low p

module _ (f : List ℕ) {r : File} (reads : Reads f r) where
  -- ---- below the count that the header gives is below the length of the table's list
  string_in : {n : ℕ} → n < r.header.strings.count → String r n
  string_in p = let size = reads.strings.each.count in omega arith

  kind_in : {n : ℕ} → n < r.header.types.count → Kind r n
  kind_in p = let size = reads.types.each.count in omega arith

  field_in : {n : ℕ} → n < r.header.fields.count → Field r n
  field_in p = let size = reads.fields.count in omega arith

  method_in : {n : ℕ} → n < r.header.methods.count → Method r n
  method_in p = let size = reads.methods.count in omega arith

  types_in : {at : ℕ} {l : Option (List ℕ)} → TypesBelowRule f r.header at l → All (Kind r) (listed l)
  types_in (absent e) k t m = all_none (Kind r) k t m
  types_in (found_there p rule) k t m = kind_in (rule.entries.each m).range

  -- ---- code and debug information
  caught : {at : ℕ} (x : Code) → CodeRule (up_to_end f r.header) (plain_frame r.header) at x → All (λ (h : Handler). All (λ (p : Pair). Kind r p.kind) h.pairs) x.handlers.handlers
  caught {at} x rule = by rule.handlers
    where
      Caught : Handler → Type 0
      Caught h = All (λ (p : Pair). Kind r p.kind) h.pairs

      by : ((0 < x.head.tries) × HandlersRule (up_to_end f r.header) (judge_of (plain_frame r.header) at x.head x.base) x.handlers)
          ⊎ ((0 < x.head.tries → ⊥) × (record { first = x.base; handlers = []; end = x.base } ≡ x.handlers)) → All Caught x.handlers.handlers
      by (inl h) = row_all Caught (λ s a t q. row_all (λ (p : Pair). Kind r p.kind) (λ s p t w. kind_in w.below) q.pairs) h.1.handlers
      by (inr h) = subst (λ (l : HandlerList). All Caught l.handlers) h.1 (all_none Caught)

  named : (n : Option ℕ) → Named r.header.strings.count n → IfThere (String r) n
  named none h = tt
  named (some v) h = string_in h

  body_in : {at : ℕ} (b : Body) → BodyRule (up_to_end f r.header) (plain_frame r.header) at b → BodyIndices r b
  body_in b rule =
      record {
        catches = caught b.code rule.code;
        names = if_present (λ (d : Debug). All (IfThere (String r)) d.names) (λ d q. row_all (IfThere (String r)) (λ s n t w. named n w.below) q.names) rule.debug;
      }

  bodies_in : {l : List M.Member} {m : List (Option Body)} → Alike (MethodRule (up_to_end f r.header) (plain_frame r.header)) l m → All (IfThere (BodyIndices r)) m
  bodies_in {l} {m} both = alike_all (IfThere (BodyIndices r)) (λ x o rule. if_present (BodyIndices r) (λ b q. body_in b q) rule) l m both

  -- ---- class data
  members_in : (j : MemberJudge) (Own : ℕ → Type 0) → ((n : ℕ) → n < j.limit → Own n) → {p count q : ℕ} {l : List M.Member} → MembersRule (up_to_end f r.header) j p count l q → All (λ (m : M.Member). Own m.index) l
  members_in j Own low rule k m p = low m.index (rule.below p)

  data_in : {at : ℕ} (d : DataBelow) → DataBelowRule (up_to_end f r.header) (plain_frame r.header) at d → DataIndices r d
  data_in d rule =
      record {
        statics = members_in _ (Field r) (λ n p. field_in p) rule.members.statics;
        instances = members_in _ (Field r) (λ n p. field_in p) rule.members.instances;
        directs = members_in _ (Method r) (λ n p. method_in p) rule.members.directs;
        virtuals = members_in _ (Method r) (λ n p. method_in p) rule.members.virtuals;
        direct_bodies = bodies_in rule.directs;
        virtual_bodies = bodies_in rule.virtuals;
      }

  class_in : {n : ℕ} (c : ClassBelow) → ClassBelowRule f r.header r.map.handles.count n c → ClassIndices r c
  class_in c rule =
      let words = rule.own.rule in
      record {
        class = subst (λ (x : Class). Kind r x.class) rule.own.stands (kind_in words.class);
        superclass = subst (λ (x : Class). IfGiven (Kind r) x.superclass) rule.own.stands (given_below (Kind r) _ _ words.superclass (λ p. kind_in p));
        source = subst (λ (x : Class). IfGiven (String r) x.source) rule.own.stands (given_below (String r) _ _ words.source (λ p. string_in p));
        interfaces = types_in rule.interfaces;
        members = if_present (DataIndices r) (λ d q. data_in d q) rule.members;
      }

  -- ---- the whole file
  pub indices : Indices r
  indices =
      record {
        types = λ k s m. string_in (reads.types.each.each m).range;
        protos = λ k p m. let q = reads.protos.each m in record { shorty = string_in q.own.shorty_range; returns = kind_in q.own.return_range; parameters = types_in q.parameters };
        fields = λ k x m. let q = reads.fields.each m in record { class = kind_in q.class_range; kind = kind_in q.kind_range; name = string_in q.name_range };
        methods = λ k x m. let q = reads.methods.each m in let size = reads.protos.count in let low = q.kind_range in record { class = kind_in q.class_range; kind = omega arith; name = string_in q.name_range };
        handles = λ k h m. let q = reads.handles.each m in record { field = λ p. field_in (q.field p); method = λ p. method_in (q.method p) };
        classes = λ k c m. class_in c (reads.classes.each m);
      }
