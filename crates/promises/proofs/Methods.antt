-- On a file of which a reading is known, each reader of class data, code and debug information answers what the reading says.
-- Assumes nothing.
use Prim.Native.Nat.{ℕ, zero, suc, ◌<◌}
use mathlib.Core.Path.{◌≡◌, refl, ap, sym, subst, ◌∙◌}
use mathlib.Core.Option.{Option, none, some}
use mathlib.Core.List.{List, []}
use lib.ListN.{length, get_or}
use lib.Dec.{ltb, leb}
use borrow.Author.Tests.{ne_eqb}
use native.Mathlib.Omega.{arith}
use Rattle.refusal.specs.Refusals.{no_room, not_there}
use Rattle.refusal.specs.Outcome.{Outcome, answer, refused, ◌>>=◌, given}
use Rattle.refusal.specs.Seek.{position}
use Rattle.refusal.specs.Exact.{Exact, Present, absent, found_there, Alike, Sought}
use Rattle.refusal.proofs.Laws.{bind_answer, leaves, absent_there, present_there}
use Rattle.refusal.proofs.Exact.{answer_exact, exact_iff}
use Rattle.refusal.proofs.Seek.{sought_same}
use Rattle.refusal.proofs.Rows.{bind_assoc}
use Rattle.header.specs.declared.Header.{Header}
use Rattle.header.specs.Header.{header_at, up_to_end, plain_frame}
use Rattle.frame.specs.declared.Frame.{Frame}
use Rattle.value_bodies.specs.Bodies.{pick}
use Rattle.class_ids.specs.declared.Class.{Class}
use Rattle.class_members.specs.declared.Member.{Member}
use Rattle.class_data.specs.Data.{ClassData, extent_at, one_of_four, list_of, member_of_list}
use Rattle.class_data.specs.Rules.{DataRule}
use Rattle.class_data.proofs.Exactly.{data_exact}
use Rattle.handlers.specs.Handlers.{Handler, nothing, nobody}
use Rattle.code_item.specs.declared.Outline.{Outline}
use Rattle.code_bodies.specs.declared.Try.{Try}
use Rattle.code_bodies.specs.Tries.{no_try}
use Rattle.code_item.specs.Covering.{covers}
use Rattle.code_bodies.specs.Code.{Code, code_at}
use Rattle.code_item.specs.Code.{outline_at, covering_of, try_of, handed, handler_of, pair_of}
use Rattle.code_bodies.specs.Rules.{CodeRule}
use Rattle.code_bodies.proofs.Exactly.{code_exact, links_counted}
use Rattle.code_item.proofs.Covering.{covering_sought, covering_once}
use Rattle.debug_info.specs.Debug.{Debug, extent_at as debugExtent, name_of}
use Rattle.debug_info.specs.Rules.{DebugRule}
use Rattle.debug_info.proofs.Exactly.{debug_exact}
use Rattle.table_readers.specs.Tables.{class_in}
use Rattle.class_readers.specs.declared.Spot.{Spot}
use Rattle.class_readers.specs.Spots.{onward, spot_at, data_in, data_spot, method_under, method_spot, debug_under, debug_spot}
use Rattle.class_readers.specs.Members.{counts_under, class_data, member_under, member_number, flags_in, member_flags, content_of, member_content}
use Rattle.code_readers.specs.Code.{code_in, outline_under, method_code, try_under, try_number, cover_under, covering_try, handlers_in, handler_count, handler_under, handler_number, pair_under, handler_pair, units_under, method_units, units_over, units_in, units_content}
use Rattle.debug_readers.specs.Debug.{whole_under, debug_whole, extent_under, method_debug, name_under, parameter_name, program_of, line_program}
use Rattle.class_walk.specs.Methods.{Body, DataBelow}
use Rattle.class_walk.specs.Classes.{ClassBelow}
use Rattle.class_walk.specs.Rules.{BodyRule, MethodRule, DataBelowRule}
use Rattle.whole_check.specs.File.{File}
use Rattle.promises.specs.Reads.{Reads}
use Rattle.promises.specs.Methods.{bodies_of, data_of, member_of, body_of, code_of, debug_of, linked_try, units_left, Covers, MethodReaders}
use Rattle.promises.proofs.Tables.{headed, class_at_lem}
use Rattle.promises.proofs.Picked.{onward_then, onward_same, tested, tested_twice, number_part, number_there, picked_alike, picked_refused}
use Rattle.promises.proofs.Ruled.{code_ruled}

-- what lies at an offset, none exactly where the offset is 0
spotted : {A C : Type 0} {Rule : A → Type 0} {at : ℕ} {o : Option A} (h : Header) (k : Spot → Outcome (Option C)) (g : A → Outcome (Option C)) → Present Rule at o
    → ((a : A) → Rule a → k (record { header = h; place = at }) ≡ g a) → (spot_at h at >>= onward k) ≡ onward g o
unfolding spot_at onward ◌>>=◌
spotted h k g (absent e) same = bind_answer (onward k) (sym (absent_there _ (omega arith)))
spotted h k g (found_there {a = a} p rule) same = bind_answer (onward k) (sym (present_there _ p refl)) ∙ same a rule

-- there is no list but the four
no_list : {A : Type 0} (list : ℕ) (a b c d e : A) → 3 < list → one_of_four list a b c d e ≡ e
no_list list a b c d e p =
    sym (leaves a (ne_eqb list 0 (λ q. omega arith)) (leaves b (ne_eqb list 1 (λ q. omega arith)) (leaves c (ne_eqb list 2 (λ q. omega arith)) (leaves d (ne_eqb list 3 (λ q. omega arith)) refl))))

-- a member of class data that obeys its rules
member_in : (s : List ℕ) (f : Frame) (at : ℕ) (d : ClassData) → DataRule s f at d → (list k : ℕ) → member_of_list s f at list k ≡ pick k (list_of list d)
unfolding member_of_list
member_in s f at d rule list k = bind_answer _ ((data_exact s f at).complete d rule) ∙ number_there (list_of list d) k _

module _ (f : List ℕ) {r : File} (reads : Reads f r) {C : Type 0} (c : ℕ) where
  -- ---- class data
  data_at : (k : Spot → Outcome (Option C)) (g : DataBelow → Outcome (Option C))
      → ((at : ℕ) (d : DataBelow) → DataBelowRule (up_to_end f r.header) (plain_frame r.header) at d → k (record { header = r.header; place = at }) ≡ g d)
      → (data_spot f c >>= onward k) ≡ (data_of r c >>= onward g)
  unfolding data_spot data_in ◌>>=◌
  data_at k g same =
      bind_assoc (header_at f) (data_in f c) (onward k)
      ∙ headed f reads (λ (h : Header). data_in f c h >>= onward k)
      ∙ bind_assoc (class_in f c r.header) (λ (x : Class). spot_at r.header x.«data») (onward k)
      ∙ class_at_lem f reads c (λ (x : Class). spot_at r.header x.«data» >>= onward k) (λ (b : ClassBelow). onward g b.members) (λ b q. spotted r.header k g q.members (λ d rule. same _ d rule))
      ∙ sym (bind_assoc (pick c r.classes) (λ (b : ClassBelow). answer b.members) (onward g))

  module _ (list k : ℕ) where
    -- ---- a method's body: number k of its list
    module _ (then : Spot → Outcome (Option C)) (g : Body → Outcome (Option C))
        (same : (at : ℕ) (b : Body) → BodyRule (up_to_end f r.header) (plain_frame r.header) at b → then (record { header = r.header; place = at }) ≡ g b) where
      bodied : {l : List Member} {m : List (Option Body)} → Alike (MethodRule (up_to_end f r.header) (plain_frame r.header)) l m
          → (pick k l >>= λ (x : Member). spot_at r.header x.code >>= onward then) ≡ (pick k m >>= onward g)
      bodied both = picked_alike both k _ (onward g) (λ x b rule. spotted r.header then g rule (λ b q. same _ b q))

      -- the code of a field is not there, nor is a fifth list
      by_list : (list : ℕ) {at : ℕ} (d : DataBelow) → DataBelowRule (up_to_end f r.header) (plain_frame r.header) at d
          → (pick k (list_of list d.members) >>= λ (x : Member). given (leb 2 list) not_there (spot_at r.header x.code) >>= onward then) ≡ (pick k (bodies_of list d) >>= onward g)
      unfolding given ◌>>=◌ pick
      by_list zero d rule = picked_refused d.members.statics k
      by_list (suc zero) d rule = picked_refused d.members.instances k
      by_list (suc (suc zero)) d rule = bodied rule.directs
      by_list (suc (suc (suc zero))) d rule = bodied rule.virtuals
      by_list (suc (suc (suc (suc n)))) d rule =
          ap (λ (l : List Member). pick k l >>= λ (x : Member). given (leb 2 (suc (suc (suc (suc n))))) not_there (spot_at r.header x.code) >>= onward then) (no_list (suc (suc (suc (suc n)))) _ _ _ _ [] (omega arith))
          ∙ sym (ap (λ (l : List (Option Body)). pick k l >>= onward g) (no_list (suc (suc (suc (suc n)))) _ _ _ _ [] (omega arith)))

      body_at : (method_spot f c list k >>= onward then) ≡ (body_of r c list k >>= onward g)
      unfolding method_spot method_under
      body_at =
          onward_then (data_spot f c) (method_under f list k) then
          ∙ data_at (λ (s : Spot). method_under f list k s >>= onward then) (λ (d : DataBelow). pick k (bodies_of list d) >>= onward g) under
          ∙ sym (onward_then (data_of r c) (λ (d : DataBelow). pick k (bodies_of list d)) g)
        where
          under : (at : ℕ) (d : DataBelow) → DataBelowRule (up_to_end f r.header) (plain_frame r.header) at d
              → (method_under f list k (record { header = r.header; place = at }) >>= onward then) ≡ (pick k (bodies_of list d) >>= onward g)
          under at d rule =
              bind_assoc (member_of_list (up_to_end f r.header) (plain_frame r.header) at list k) (λ (m : Member). given (leb 2 list) not_there (spot_at r.header m.code)) (onward then)
              ∙ ap (λ (o : Outcome Member). o >>= λ (m : Member). given (leb 2 list) not_there (spot_at r.header m.code) >>= onward then)
              (member_in (up_to_end f r.header) (plain_frame r.header) at d.members rule.members list k)
              ∙ by_list list d rule

    -- ---- its code
    code_at_lem : (then : Spot → Outcome (Option C)) (g : Code → Outcome (Option C))
        → ((at : ℕ) (x : Code) → CodeRule (up_to_end f r.header) (plain_frame r.header) at x → then (record { header = r.header; place = at }) ≡ g x)
        → (method_spot f c list k >>= onward then) ≡ (code_of r c list k >>= onward g)
    unfolding ◌>>=◌ onward
    code_at_lem then g same = body_at then (λ (b : Body). g b.code) (λ at b rule. same at b.code rule.code) ∙ sym (onward_then (body_of r c list k) (λ (b : Body). answer (some b.code)) g)

    -- ---- its debug information
    debug_at : (then : Spot → Outcome (Option C)) (g : Debug → Outcome (Option C))
        → ((at : ℕ) (d : Debug) → DebugRule (up_to_end f r.header) r.header.strings.count at d → then (record { header = r.header; place = at }) ≡ g d)
        → (debug_spot f c list k >>= onward then) ≡ (debug_of r c list k >>= onward g)
    unfolding debug_spot debug_under outline_at ◌>>=◌
    debug_at then g same =
        onward_then (method_spot f c list k) (debug_under f) then
        ∙ body_at (λ (s : Spot). debug_under f s >>= onward then) (λ (b : Body). onward g b.debug) under
        ∙ sym (onward_then (body_of r c list k) (λ (b : Body). answer b.debug) g)
      where
        under : (at : ℕ) (b : Body) → BodyRule (up_to_end f r.header) (plain_frame r.header) at b → (debug_under f (record { header = r.header; place = at }) >>= onward then) ≡ onward g b.debug
        under at b rule =
            ap (λ (o : Outcome (Option Spot)). o >>= onward then) (bind_answer _ (bind_answer _ ((code_exact (up_to_end f r.header) (plain_frame r.header) at).complete b.code rule.code)))
            ∙ spotted r.header then g rule.debug (λ d q. same _ d q)

-- ---- the parts of a code item that obeys its rules
module _ (s : List ℕ) (f : Frame) (at : ℕ) (x : Code) (rule : CodeRule s f at x) where
  coded : {B : Type 0} (k : Code → Outcome B) → (code_at s f at >>= k) ≡ k x
  coded k = bind_answer k ((code_exact s f at).complete x rule)

  try_in : (t : ℕ) → try_of s f at t ≡ linked_try t x
  unfolding try_of
  try_in t =
      coded _
      ∙ sym (tested_twice (ltb t x.head.tries) _)
      ∙ number_part x.tries x.head.tries rule.tries.count t no_try (λ (a : Try). given (ltb t x.head.tries) not_there (answer (record { attempt = a; number = get_or x.links t 0 })))
      ∙ λ i. pick t x.tries >>= λ (a : Try). number_part x.links x.head.tries (links_counted s f at x rule) t 0 (λ (n : ℕ). answer (record { attempt = a; number = n })) i

  handler_in : (h : ℕ) → handler_of s f at h ≡ (pick h x.handlers.handlers >>= λ (y : Handler). answer (handed y))
  unfolding handler_of
  handler_in h = coded _ ∙ number_part x.handlers.handlers (length x.handlers.handlers) refl h _ (λ (y : Handler). answer (handed y))

  pair_in : (h p : ℕ) → pair_of s f at h p ≡ (pick h x.handlers.handlers >>= λ (y : Handler). pick p y.pairs)
  unfolding pair_of
  pair_in h p =
      coded _
      ∙ ap (given (ltb h (length x.handlers.handlers)) not_there) (number_there (get_or x.handlers.handlers h nobody).pairs p nothing)
      ∙ number_part x.handlers.handlers (length x.handlers.handlers) refl h nobody (λ (y : Handler). pick p y.pairs)

name_in : (s : List ℕ) (strings at : ℕ) (d : Debug) → DebugRule s strings at d → (p : ℕ) → name_of s strings at p ≡ pick p d.names
unfolding name_of
name_in s strings at d rule p = bind_answer _ ((debug_exact s strings at).complete d rule) ∙ number_there d.names p none

-- the output afterwards depends on the code alone
left : (f : List ℕ) (o : Outcome (Option Spot)) (out : List ℕ) → units_in f o out ≡ units_left (o >>= onward (λ (s : Spot). code_in f s >>= λ (x : Code). answer (some x))) out
unfolding units_in units_over ◌>>=◌ onward
left f (answer none) out = refl
left f (answer (some s)) out = go (code_in f s)
  where
    go : (o : Outcome Code) → units_over o out ≡ units_left (o >>= λ (x : Code). answer (some x)) out
    go (answer x) = refl
    go (refused q) = refl
left f (refused q) out = refl

-- one more step of what may be absent
abbrev there_is : {A : Type 0} → Outcome A → Outcome (Option A)
there_is {A} o = o >>= λ (a : A). answer (some a)

pub methods_agree : (f : List ℕ) {r : File} → Reads f r → MethodReaders f r
unfolding ◌>>=◌ class_data counts_under extent_at member_number member_under member_flags flags_in member_content method_code outline_under outline_at method_units units_under code_in units_content try_number try_under covering_try cover_under covering_of handler_count handlers_in handler_number handler_under handler_pair pair_under method_debug extent_under debugExtent parameter_name name_under line_program debug_whole whole_under onward
methods_agree f {r} reads =
    record {
      class_data_lem = λ c. data_at f reads c (counts_under f) _ (λ at d q. bind_answer _ (bind_answer _ ((data_exact s h at).complete d.members q.members)));
      member = member;
      member_flags_lem = λ c list k room. ap (λ (o : Outcome (Option Member)). o >>= onward (flags_in room)) (member c list k);
      member_content_lem = λ c list k out. ap (λ (o : Outcome (Option Member)). content_of o out) (member c list k);
      code = λ c list k. code_at_lem f reads c list k (outline_under f) _ (λ at x q. ap there_is (coded s h at x q _));
      units = λ c list k room. code_at_lem f reads c list k (units_under f room) _ (λ at x q. coded s h at x q _ ∙ tested (leb (length x.units) room) no_room (length x.units) (λ (n : ℕ). answer (some n)));
      units_content_lem = λ c list k out. left f (method_spot f c list k) out ∙ ap (λ (o : Outcome (Option Code)). units_left o out) (code_at_lem f reads c list k _ (λ (x : Code). answer (some x)) (λ at x q. coded s h at x q _) ∙ onward_same (code_of r c list k));
      try_item = λ c list k t. code_at_lem f reads c list k (try_under f t) _ (λ at x q. ap there_is (try_in s h at x q t));
      covering_try_lem = covering;
      covering_exactly = λ c list k address e. covered c list k address e;
      handler_count_lem = λ c list k. onward_then (method_spot f c list k) (outline_under f) handlers_in
          ∙ code_at_lem f reads c list k (λ (p : Spot). outline_under f p >>= onward handlers_in) _ (λ at x q. ap (λ (o : Outcome Outline). there_is o >>= onward handlers_in) (coded s h at x q _));
      handler = λ c list k n. code_at_lem f reads c list k (handler_under f n) _ (λ at x q. ap there_is (handler_in s h at x q n));
      handler_pair_lem = λ c list k n p. code_at_lem f reads c list k (pair_under f n p) _ (λ at x q. ap there_is (pair_in s h at x q n p));
      debug = λ c list k. debug_at f reads c list k (extent_under f) _ (λ at d q. ap there_is (bind_answer _ ((debug_exact s r.header.strings.count at).complete d q)));
      debug_parameter = λ c list k p. debug_at f reads c list k (name_under f p) _ (λ at d q. ap there_is (name_in s r.header.strings.count at d q p));
      line_program_lem = λ c list k. ap program_of (debug_at f reads c list k (whole_under f) (λ (d : Debug). answer (some d)) (λ at d q. bind_answer _ ((debug_exact s r.header.strings.count at).complete d q)) ∙ onward_same (debug_of r c list k));
    }
  where
    s : List ℕ
    s = up_to_end f r.header

    h : Frame
    h = plain_frame r.header

    member : (c list k : ℕ) → member_number f c list k ≡ member_of r c list k
    member c list k = data_at f reads c (member_under f list k) _ (λ at d q. ap there_is (member_in s h at d.members q.members list k))

    covering : (c list k address : ℕ) → covering_try f c list k address ≡ (code_of r c list k >>= onward (λ (x : Code). answer (position (covers address) x.tries)))
    covering c list k address = code_at_lem f reads c list k (cover_under f address) _ (λ at x q. coded s h at x q _)

    covered : {x : Code} (c list k address : ℕ) → code_of r c list k ≡ answer (some x) → Exact (covering_try f c list k address) (Sought (Covers address) x.tries)
    covered {x} c list k address e =
        let ruled = code_ruled f reads c list k e in
        let said = covering c list k address ∙ bind_answer (onward (λ (x : Code). answer (position (covers address) x.tries))) e in
        rw said (exact_iff (answer_exact (position (covers address) x.tries))
        (λ o q. subst (Sought (Covers address) x.tries) q (covering_sought x address))
        (λ o q. sought_same (covering_once s h ruled.0 x ruled.1 address) (covering_sought x address) q))
