-- On a file of which a reading is known, each member of class data is answered, with its code and debug information.
-- Assumes nothing.
use Prim.Native.Nat.{ℕ, ◌≤◌, ◌<◌}
use mathlib.Core.Path.{◌≡◌, refl, ap, sym, subst, ◌∙◌}
use mathlib.Core.Bool.{Bool, false}
use mathlib.Core.Option.{Option, none, some}
use mathlib.Core.List.{List}
use lib.ListN.{length}
use lib.Dec.{leb}
use borrow.Author.Tests.{le-leb}
use native.Mathlib.Omega.{arith}
use Rattle.refusal.specs.Refusals.{no_room}
use Rattle.refusal.specs.Outcome.{Outcome, answer, ◌>>=◌, given}
use Rattle.refusal.specs.Exact.{Present, At, Alike}
use Rattle.refusal.specs.Seek.{position}
use Rattle.refusal.proofs.Laws.{bind_answer, passes}
use Rattle.refusal.proofs.Each.{at_below, at_some}
use Rattle.header.specs.Header.{up_to_end, plain_frame}
use Rattle.access_flags.specs.Flags.{flags, written}
use Rattle.class_members.specs.declared.Member.{Member}
use Rattle.class_data.specs.Data.{list_of}
use Rattle.value_bodies.proofs.Picks.{pick_there}
use Rattle.handlers.specs.Handlers.{Handler}
use Rattle.code_bodies.specs.declared.Try.{Try}
use Rattle.code_bodies.specs.Code.{Code}
use Rattle.code_item.specs.Code.{outline}
use Rattle.code_item.specs.Covering.{covers}
use Rattle.debug_info.specs.Debug.{Debug}
use Rattle.class_readers.specs.Spots.{onward}
use Rattle.debug_readers.specs.Debug.{program_of}
use Rattle.class_walk.specs.Methods.{Body, DataBelow}
use Rattle.class_walk.specs.Classes.{ClassBelow}
use Rattle.class_walk.specs.Rules.{BodyRule, MethodRule, DataBelowRule}
use Rattle.whole_check.specs.File.{File}
use Rattle.promises.specs.Reads.{Reads}
use Rattle.promises.specs.Tables.{listed}
use Rattle.promises.specs.Methods.{if_any, bodies_of, data_of, member_of, body_of, extent_of}
use Rattle.promises.specs.Numbers.{Answers, EachNumber, IfThere, none_or}
use Rattle.promises.specs.RowsAnswered.{StringAnswered, FieldAnswered, MethodAnswered}
use Rattle.promises.specs.MethodsAnswered.{debug_in, TryAnswered, HandlerAnswered, NameAnswered, CodeAnswered, BodyAnswered, MemberAnswered, MethodOfClass, DataAnswered}
use Rattle.promises.proofs.InRange.{All, String, BodyIndices, DataIndices}
use Rattle.promises.proofs.Methods.{methods_agree}
use Rattle.promises.proofs.Numbers.{each_number, leads_to, of_there, if_there_then}
use Rattle.promises.proofs.FromRules.{tries_counted, links_counted, link_leads}
use Rattle.promises.proofs.RowsAnswered.{string_answered, type_answered, field_answered, method_answered}

-- ---- a part of what may be absent
if_some : {A B : Type 0} (o : Outcome (Option A)) {a : A} (g : A → Outcome B) {b : B} → o ≡ answer (some a) → g a ≡ answer b → if_any o g ≡ answer (some b)
unfolding onward
if_some o g e q = bind_answer _ e ∙ bind_answer _ q

pub if_none_or : {A B : Type 0} (o : Outcome (Option A)) (x : Option A) (g : A → B) → o ≡ answer x → if_any o (λ (a : A). answer (g a)) ≡ answer (none_or g x)
unfolding onward ◌>>=◌
if_none_or {A} {B} o x g e = ap (λ (z : Outcome (Option A)). if_any z (λ (a : A). answer (g a))) e ∙ go x
  where
    go : (x : Option A) → if_any (answer x) (λ (a : A). answer (g a)) ≡ answer (none_or g x)
    go none = refl
    go (some a) = refl

-- ---- "if lent enough room"
enough : (n room : ℕ) → n ≤ room → given (leb n room) no_room (answer n) ≡ answer n
enough n room p = sym (passes no_room (le-leb n room p) refl)

pub flags_fit : (class : Bool) (value room : ℕ) → length (flags class value) ≤ room → written class value room ≡ answer (length (flags class value))
unfolding written
flags_fit class value room p = enough (length (flags class value)) room p

-- the units of a code item, where there is room for them
abbrev units_into : ℕ → Code → Outcome ℕ
units_into room x = given (leb (length x.units) room) no_room (answer (length x.units))

-- ---- of a body that may be absent: its code, its units, what is asked of its tries, its debug information
abbrev code_of_it : Outcome (Option Body) → Outcome (Option Code)
code_of_it y = if_any y (λ (b : Body). answer b.code)

module _ (z : Outcome (Option Body)) where
  code_in : {b : Body} → z ≡ answer (some b) → code_of_it z ≡ answer (some b.code)
  code_in e = if_some z _ e refl

  code_or : {A : Type 0} (o : Option Body) (g : Code → A) → z ≡ answer o → if_any (code_of_it z) (λ (x : Code). answer (g x)) ≡ answer (none_or (λ (b : Body). g b.code) o)
  unfolding onward ◌>>=◌
  code_or none g e = ap (λ (y : Outcome (Option Body)). if_any (code_of_it y) (λ (x : Code). answer (g x))) e
  code_or (some b) g e = if_some _ (λ (x : Code). answer (g x)) (code_in e) refl

  units_or : (o : Option Body) (room : ℕ) → z ≡ answer o → IfThere (λ (b : Body). length b.code.units ≤ room) o
      → if_any (code_of_it z) (units_into room) ≡ answer (none_or (λ (b : Body). length b.code.units) o)
  unfolding onward ◌>>=◌
  units_or none room e fits = ap (λ (y : Outcome (Option Body)). if_any (code_of_it y) (units_into room)) e
  units_or (some b) room e fits = if_some _ (units_into room) (code_in e) (enough (length b.code.units) room fits)

  asked_or : (o : Option Body) (g : Code → Option ℕ) → z ≡ answer o → Answers (code_of_it z >>= onward (λ (x : Code). answer (g x)))
  unfolding onward ◌>>=◌
  asked_or none g e = (none, ap (λ (y : Outcome (Option Body)). code_of_it y >>= onward (λ (x : Code). answer (g x))) e)
  asked_or (some b) g e = (g b.code, bind_answer _ (code_in e))

  debug_or : (o : Option Body) → z ≡ answer o → (z >>= onward (λ (b : Body). answer b.debug)) ≡ answer (debug_in o)
  unfolding onward
  debug_or none e = bind_answer _ e
  debug_or (some b) e = bind_answer _ e

program_in : (o : Option Debug) → program_of (answer o) ≡ listed (none_or (λ (d : Debug). d.program) o)
unfolding program_of
program_in none = refl
program_in (some d) = refl

module _ (f : List ℕ) {r : File} (reads : Reads f r) (c : ℕ) where
  module _ (list k : ℕ) where
    -- ---- below a code offset
    module _ {b : Body} (body_is : body_of r c list k ≡ answer (some b)) {at : ℕ} (rule : BodyRule (up_to_end f r.header) (plain_frame r.header) at b) (low : BodyIndices r b) where
      try_answered : (t : ℕ) (a : Try) → At b.code.tries t a → TryAnswered f r c list k b.code t a
      try_answered t a m =
          let methods = methods_agree f reads in
          let size = tries_counted (up_to_end f r.header) (plain_frame r.header) at b.code rule.code in
          let links = links_counted (up_to_end f r.header) (plain_frame r.header) at b.code rule.code in
          let l = at_some b.code.links t (let p = at_below m in omega arith) in
          let h = link_leads (up_to_end f r.header) (plain_frame r.header) at b.code rule.code m l.1 in
          record {
            number = l.0;
            number_is = l.1;
            try_item = methods.try_item c list k t ∙ if_some _ _ (code_in _ body_is) (bind_answer _ (pick_there m) ∙ bind_answer _ (pick_there l.1));
            target = h.0;
            target_is = h.1;
            at_its_offset = h.2;
            handler = methods.handler c list k l.0 ∙ if_some _ _ (code_in _ body_is) (bind_answer _ (pick_there h.1));
          }

      handler_answered : (h : ℕ) (y : Handler) → At b.code.handlers.handlers h y → HandlerAnswered f r c list k h y
      handler_answered h y m =
          let methods = methods_agree f reads in
          record {
            handler = methods.handler c list k h ∙ if_some _ _ (code_in _ body_is) (bind_answer _ (pick_there m));
            pairs = each_number y.pairs (λ p q n. record {
              handler_pair_lem = methods.handler_pair_lem c list k h p ∙ if_some _ _ (code_in _ body_is) (bind_answer _ (pick_there m) ∙ pick_there n);
              kind = type_answered f reads _ (low.catches h y m p q n);
            });
          }

      names_answered : (d : Debug) → b.debug ≡ some d → (p : ℕ) (n : Option ℕ) → At d.names p n → NameAnswered f r c list k p n
      names_answered d e p n m =
          record {
            debug_parameter = (methods_agree f reads).debug_parameter c list k p ∙ if_some _ _ (debug_or _ (some b) body_is ∙ ap answer e) (pick_there m);
            name = if_there_then (String r) (StringAnswered f r) (string_answered f reads) n (of_there (λ (d : Debug). All (IfThere (String r)) d.names) e low.names p n m);
          }

      code_answered : CodeAnswered f r c list k b
      code_answered =
          let s = up_to_end f r.header in
          let h = plain_frame r.header in
          record {
            tries = tries_counted s h at b.code rule.code;
            links = links_counted s h at b.code rule.code;
            each_try = subst (λ (n : ℕ). EachNumber n b.code.tries (TryAnswered f r c list k b.code)) (tries_counted s h at b.code rule.code) (each_number b.code.tries try_answered);
            each_handler = each_number b.code.handlers.handlers handler_answered;
            debug_below = leads_to rule.debug (λ d e q. each_number d.names (names_answered d e));
          }

    -- ---- a body that may be absent
    body_answered : (at : ℕ) (o : Option Body) → body_of r c list k ≡ answer o → Present (BodyRule (up_to_end f r.header) (plain_frame r.header) at) at o → IfThere (BodyIndices r) o
        → BodyAnswered f r c list k at o
    body_answered at o e rule low =
        let methods = methods_agree f reads in
        record {
          code = methods.code c list k ∙ code_or _ o outline e;
          units = λ room fits. methods.units c list k room ∙ units_or _ o room e fits;
          covering_try_lem = λ address.
              let x = asked_or _ o (λ (x : Code). position (covers address) x.tries) e in
              (x.0, methods.covering_try_lem c list k address ∙ x.1);
          handler_count_lem = methods.handler_count_lem c list k ∙ code_or _ o (λ (x : Code). length x.handlers.handlers) e;
          debug = methods.debug c list k ∙ if_none_or _ (debug_in o) extent_of (debug_or _ o e);
          line_program_lem = methods.line_program_lem c list k ∙ ap program_of (debug_or _ o e) ∙ program_in (debug_in o);
          code_below = leads_to rule (λ b s q. code_answered (e ∙ ap answer s) q (of_there (BodyIndices r) s low));
        }

  -- ---- members
  module _ {b : ClassBelow} (class_is : At r.classes c b) (d : DataBelow) (members-are : b.members ≡ some d) where
    data_is : data_of r c ≡ answer (some d)
    data_is = bind_answer _ (pick_there class_is) ∙ ap answer members-are

    member_is : (list k : ℕ) {m : Member} → At (list_of list d.members) k m → member_of r c list k ≡ answer (some m)
    member_is list k n = if_some _ _ data_is (pick_there n)

    body_there : (list k : ℕ) {o : Option Body} → At (bodies_of list d) k o → body_of r c list k ≡ answer o
    unfolding onward
    body_there list k n = bind_answer _ data_is ∙ pick_there n

    member_answered : (Own : ℕ → Type 0) (list k : ℕ) (m : Member) → At (list_of list d.members) k m → Own m.index → MemberAnswered f r c list k Own m
    member_answered Own list k m n own =
        let methods = methods_agree f reads in
        record {
          member = methods.member c list k ∙ member_is list k n;
          member_flags_lem = λ room p. methods.member_flags_lem c list k room ∙ if_some _ _ (member_is list k n) (flags_fit false m.flags room p);
          index = own;
        }

    method_of_class : (list k : ℕ) (m : Member) → At (list_of list d.members) k m → Alike (MethodRule (up_to_end f r.header) (plain_frame r.header)) (list_of list d.members) (bodies_of list d)
        → m.index < length r.methods → All (IfThere (BodyIndices r)) (bodies_of list d) → MethodOfClass f r c list k (bodies_of list d) m
    method_of_class list k m n both own low =
        let body = at_some (bodies_of list d) k (let p = at_below n in let size = both.count in omega arith) in
        record {
          own = member_answered (MethodAnswered f r) list k m n (method_answered f reads _ own);
          body = body.0;
          body_is = body.1;
          body_answered = body_answered list k m.code body.0 (body_there list k body.1) (both.each n body.1) (low k body.0 body.1);
        }

    pub data_answered : {at : ℕ} → DataBelowRule (up_to_end f r.header) (plain_frame r.header) at d → DataIndices r d → DataAnswered f r c d
    data_answered rule low =
        record {
          statics = each_number d.members.statics (λ k m n. member_answered (FieldAnswered f r) 0 k m n (field_answered f reads _ (low.statics k m n)));
          instances = each_number d.members.instances (λ k m n. member_answered (FieldAnswered f r) 1 k m n (field_answered f reads _ (low.instances k m n)));
          directs = each_number d.members.directs (λ k m n. method_of_class 2 k m n rule.directs (low.directs k m n) low.direct_bodies);
          virtuals = each_number d.members.virtuals (λ k m n. method_of_class 3 k m n rule.virtuals (low.virtuals k m n) low.virtual_bodies);
        }
