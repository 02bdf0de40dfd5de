-- Class data, code and debug information: what it is that they are answered. `c` is a class, `list` one of its four lists of members, `k` a member.
use Rattle.std.specs.Prelude.{ℕ, ◌≤◌, ◌≡◌, false, List, length}
use Rattle.std.proofs.Math.Option.{Option, none, some}
use Rattle.refusal.specs.Outcome.{answer}
use Rattle.refusal.specs.Exact.{At}
use Rattle.class_members.specs.declared.Member.{Member}
use Rattle.handlers.specs.declared.Pair.{Pair}
use Rattle.handlers.specs.Handlers.{Handler}
use Rattle.code_bodies.specs.declared.Try.{Try}
use Rattle.code_bodies.specs.Code.{Code}
use Rattle.code_item.specs.Code.{outline, handed}
use Rattle.debug_info.specs.Debug.{Debug}
use Rattle.class_readers.specs.Members.{member_number, member_flags}
use Rattle.code_readers.specs.Code.{method_code, method_units, try_number, covering_try, handler_count, handler_number, handler_pair}
use Rattle.debug_readers.specs.Debug.{method_debug, parameter_name, line_program}
use Rattle.class_walk.specs.Methods.{Body, DataBelow}
use Rattle.whole_check.specs.File.{File}
use Rattle.promises.specs.Tables.{listed}
use Rattle.promises.specs.Methods.{extent_of}
use Rattle.promises.specs.Numbers.{Answers, EachNumber, EachIn, LeadsTo, IfThere, none_or, flag_count}
use Rattle.promises.specs.RowsAnswered.{StringAnswered, TypeAnswered, FieldAnswered, MethodAnswered}

-- the debug information of a body: there is none without code
abbrev pub debug_in : Option Body → Option Debug
debug_in none = none
debug_in (some b) = b.debug

-- how many units its instructions have
abbrev pub unit_count : Body → ℕ
unit_count b = length b.code.units

module _ (f : List ℕ) (r : File) (c list k : ℕ) where
  -- a try, and the handler whose number it hands out: it is the one at the try's handler offset
  pub record TryAnswered (x : Code) (t : ℕ) (a : Try) : Type 0 where
    pub number : ℕ
    pub number_is : At x.links t number
    pub try_item : try_number f c list k t ≡ answer (some (record { attempt = a; number = number }))
    pub target : Handler
    pub target_is : At x.handlers.handlers number target
    pub at_its_offset : target.offset ≡ a.handler
    pub handler : handler_number f c list k number ≡ answer (some (handed target))

  -- a pair of a handler, and the type that it catches
  pub record PairAnswered (h p : ℕ) (q : Pair) : Type 0 where
    pub handler_pair_lem : handler_pair f c list k h p ≡ answer (some q)
    pub kind : TypeAnswered f r q.kind

  pub record HandlerAnswered (h : ℕ) (y : Handler) : Type 0 where
    pub handler : handler_number f c list k h ≡ answer (some (handed y))
    pub pairs : EachIn y.pairs (PairAnswered h)

  -- a parameter's name, where it has one
  pub record NameAnswered (p : ℕ) (n : Option ℕ) : Type 0 where
    pub debug_parameter : parameter_name f c list k p ≡ answer (some n)
    pub name : IfThere (StringAnswered f r) n

  -- what lies below a code offset
  pub record CodeAnswered (b : Body) : Type 0 where
    -- tries, and the numbers of their handlers, are as many as the head says
    pub tries : length b.code.tries ≡ b.code.head.tries
    pub links : length b.code.links ≡ b.code.head.tries
    pub each_try : EachNumber b.code.head.tries b.code.tries (TryAnswered b.code)
    pub each_handler : EachIn b.code.handlers.handlers HandlerAnswered
    pub debug_below : LeadsTo b.code.head.debug b.debug (λ d. EachIn d.names NameAnswered)

  -- the body of a method whose code is at an offset, none where it has no code
  pub record BodyAnswered (offset : ℕ) (o : Option Body) : Type 0 where
    pub code : method_code f c list k ≡ answer (none_or (λ b. outline b.code) o)
    -- into an output that has room for them
    pub units : (room : ℕ) → IfThere (λ b. unit_count b ≤ room) o → method_units f c list k room ≡ answer (none_or unit_count o)
    pub covering_try_lem : (address : ℕ) → Answers (covering_try f c list k address)
    pub handler_count_lem : handler_count f c list k ≡ answer (none_or (λ b. length b.code.handlers.handlers) o)
    pub debug : method_debug f c list k ≡ answer (none_or extent_of (debug_in o))
    -- no bytes where there is none
    pub line_program_lem : line_program f c list k ≡ listed (none_or (λ d. d.program) (debug_in o))
    pub code_below : LeadsTo offset o CodeAnswered

  -- a member, whose index is answered as its own kind: dex::member, dex::member_flags
  pub record MemberAnswered (Own : ℕ → Type 0) (m : Member) : Type 0 where
    pub member : member_number f c list k ≡ answer (some m)
    pub member_flags_lem : (room : ℕ) → flag_count false m.flags ≤ room → member_flags f c list k room ≡ answer (some (flag_count false m.flags))
    pub index : Own m.index

  -- a method of a class, with its body: number k of the bodies
  pub record MethodOfClass (bodies : List (Option Body)) (m : Member) : Type 0 where
    pub own : MemberAnswered (MethodAnswered f r) m
    pub body : Option Body
    pub body_is : At bodies k body
    pub body_answered : BodyAnswered m.code body

-- what lies below a class data offset: 0 static fields, 1 instance fields, 2 direct methods, 3 virtual methods
pub record DataAnswered (f : List ℕ) (r : File) (c : ℕ) (d : DataBelow) : Type 0 where
  pub statics : EachIn d.members.statics (λ k m. MemberAnswered f r c 0 k (FieldAnswered f r) m)
  pub instances : EachIn d.members.instances (λ k m. MemberAnswered f r c 1 k (FieldAnswered f r) m)
  pub directs : EachIn d.members.directs (λ k m. MethodOfClass f r c 2 k d.directs m)
  pub virtuals : EachIn d.members.virtuals (λ k m. MethodOfClass f r c 3 k d.virtuals m)
