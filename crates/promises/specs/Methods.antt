-- What the one reading of a file says to each reader of class data, code and debug information.
-- `pick k l` is number k of a list, and 7 exactly where there is no such number; none stays none: so each line says that the reader answers, and what.
use Rattle.std.specs.Prelude.{ℕ, ◌+◌, ◌≤◌, ◌<◌, ◌≡◌, false, cond, List, [], length, leb}
use Rattle.std.proofs.Math.Option.{Option, none, some}
use Rattle.refusal.specs.Refusals.{no_room}
use Rattle.refusal.specs.Outcome.{Outcome, answer, refused, ◌>>=◌, given}
use Rattle.refusal.specs.Exact.{Exact, Sought}
use Rattle.refusal.specs.Seek.{position}
use Rattle.access_flags.specs.Flags.{written}
use Rattle.value_bodies.specs.Bodies.{pick}
use Rattle.class_members.specs.declared.Member.{Member}
use Rattle.class_data.specs.Data.{counts, one_of_four, list_of}
use Rattle.code_units.specs.Units.{filled}
use Rattle.code_bodies.specs.declared.Try.{Try}
use Rattle.code_item.specs.Covering.{covers}
use Rattle.code_bodies.specs.Code.{Code}
use Rattle.code_item.specs.Code.{outline, Linked, handed}
use Rattle.debug_info.specs.Debug.{Debug, Extent}
use Rattle.class_readers.specs.Spots.{onward}
use Rattle.class_readers.specs.Members.{class_data, member_number, member_flags, content_of, member_content}
use Rattle.code_readers.specs.Code.{method_code, method_units, units_content, try_number, covering_try, handler_count, handler_number, handler_pair}
use Rattle.debug_readers.specs.Debug.{method_debug, parameter_name, program_of, line_program}
use Rattle.class_walk.specs.Methods.{Body, DataBelow}
use Rattle.whole_check.specs.File.{File}
use Rattle.promises.specs.Tables.{part_of}

-- "absent class data, code or debug information is answered as none": a part of what may be absent
abbrev pub if_any : {A B : Type 0} → Outcome (Option A) → (A → Outcome B) → Outcome (Option B)
if_any {A} {B} o g = o >>= onward (λ (a : A). g a >>= λ (b : B). answer (some b))

-- the bodies of a list's methods: 2 direct, 3 virtual. A field has none
abbrev pub bodies_of : ℕ → DataBelow → List (Option Body)
bodies_of list d = one_of_four list [] [] d.directs d.virtuals []

-- "The numbers and places that a file gives": class c, its list, number k of that list
module _ (r : File) (c : ℕ) where
  abbrev pub data_of : Outcome (Option DataBelow)
  data_of = part_of c r.classes (λ x. answer x.members)

  module _ (list k : ℕ) where
    abbrev pub member_of : Outcome (Option Member)
    member_of = if_any data_of (λ d. pick k (list_of list d.members))

    abbrev pub body_of : Outcome (Option Body)
    body_of = data_of >>= onward (λ (d : DataBelow). pick k (bodies_of list d))

    abbrev pub code_of : Outcome (Option Code)
    code_of = if_any body_of (λ b. answer b.code)

    abbrev pub debug_of : Outcome (Option Debug)
    debug_of = body_of >>= onward (λ (b : Body). answer b.debug)

-- try t, with the number of its handler
abbrev pub linked_try : ℕ → Code → Outcome Linked
linked_try t c = do
  a ← pick t c.tries
  n ← pick t c.links
  answer (record { attempt = a; number = n })

-- the starting line, how many names, and where the line program lies
abbrev pub extent_of : Debug → Extent
extent_of d = record { line = d.line; names = length d.names; start = d.start; length = length d.program }

-- "Refusals change no lent byte or unit. Success writes the answer's places and no others."
abbrev pub units_left : Outcome (Option Code) → List ℕ → List ℕ
units_left (answer (some c)) out = cond (leb (length c.units) (length out)) (filled c.units out) out
units_left (answer none) out = out
units_left (refused r) out = out

-- a try covers an address
abbrev pub Covers : ℕ → Try → Type 0
Covers address t = (t.start ≤ address) × (address < t.start + t.count)

pub record MethodReaders (f : List ℕ) (r : File) : Type 1 where
  pub class_data_lem : (c : ℕ) → class_data f c ≡ if_any (data_of r c) (λ d. answer (counts d.members))
  pub member : (c list k : ℕ) → member_number f c list k ≡ member_of r c list k
  pub member_flags_lem : (c list k room : ℕ) → member_flags f c list k room ≡ if_any (member_of r c list k) (λ m. written false m.flags room)
  pub member_content_lem : (c list k : ℕ) (out : List ℕ) → member_content f c list k out ≡ content_of (member_of r c list k) out
  pub code : (c list k : ℕ) → method_code f c list k ≡ if_any (code_of r c list k) (λ x. answer (outline x))
  -- "Instructions are handed out as 16-bit units into a lent output"
  pub units : (c list k room : ℕ) → method_units f c list k room ≡ if_any (code_of r c list k) (λ x. given (leb (length x.units) room) no_room (answer (length x.units)))
  pub units_content_lem : (c list k : ℕ) (out : List ℕ) → units_content f c list k out ≡ units_left (code_of r c list k) out
  pub try_item : (c list k t : ℕ) → try_number f c list k t ≡ if_any (code_of r c list k) (linked_try t)
  pub covering_try_lem : (c list k address : ℕ) → covering_try f c list k address ≡ (code_of r c list k >>= onward (λ (x : Code). answer (position (covers address) x.tries)))
  -- "Asking which try covers an address answers "none" exactly when no try does.", and otherwise the one that does
  pub covering_exactly : {x : Code} (c list k address : ℕ) → code_of r c list k ≡ answer (some x) → Exact (covering_try f c list k address) (Sought (Covers address) x.tries)
  pub handler_count_lem : (c list k : ℕ) → handler_count f c list k ≡ if_any (code_of r c list k) (λ x. answer (length x.handlers.handlers))
  pub handler : (c list k h : ℕ) → handler_number f c list k h ≡ if_any (code_of r c list k) (λ x. part_of h x.handlers.handlers (λ y. answer (handed y)))
  pub handler_pair_lem : (c list k h p : ℕ) → handler_pair f c list k h p ≡ if_any (code_of r c list k) (λ x. part_of h x.handlers.handlers (λ y. pick p y.pairs))
  pub debug : (c list k : ℕ) → method_debug f c list k ≡ if_any (debug_of r c list k) (λ d. answer (extent_of d))
  pub debug_parameter : (c list k p : ℕ) → parameter_name f c list k p ≡ if_any (debug_of r c list k) (λ d. pick p d.names)
  -- "a line program that ends at the first zero byte, handed back without it"
  pub line_program_lem : (c list k : ℕ) → line_program f c list k ≡ program_of (debug_of r c list k)
