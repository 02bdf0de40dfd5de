-- What lies below class data: "each method's code and its debug information". `s` ends where the data section ends.
use Rattle.std.specs.Prelude.{ℕ, List}
use Rattle.std.proofs.Math.Option.{Option}
use Rattle.refusal.specs.Outcome.{Outcome, answer, ◌>>=◌, present, accepted}
use Rattle.refusal.specs.Rows.{collect, through, with_below}
use Rattle.frame.specs.declared.Frame.{Frame}
use Rattle.class_members.specs.declared.Member.{Member}
use Rattle.class_data.specs.declared.Methods.{Methods}
use Rattle.class_members.specs.Members.{step_at, begin}
use Rattle.class_data.specs.Data.{ClassData, class_data_at, methods_judge}
use Rattle.code_bodies.specs.Code.{Code, code_at}
use Rattle.debug_info.specs.Debug.{Debug, debug_at}

-- a code item, and its debug information
pub record Body : Type 0 where
  pub code : Code
  pub debug : Option Debug

-- class data, and below each method its body
pub record DataBelow : Type 0 where
  pub members : ClassData
  pub directs : List (Option Body)
  pub virtuals : List (Option Body)

module _ (s : List ℕ) (frame : Frame) where
  -- "Own rules come first, then the items pointed at": the code item whole before its debug information
  unfoldable pub body_at : ℕ → Outcome Body
  body_at item = do
    c ← code_at s frame item
    d ← present c.head.debug (debug_at s frame.strings c.head.debug)
    answer (record { code = c; debug = d })

  unfoldable pub method_below : Member → Outcome (Option Body)
  method_below m = present m.code (body_at m.code)

  -- all four lists before any code; direct methods before virtual ones
  unfoldable pub data_below : ℕ → Outcome DataBelow
  data_below item = do
    d ← class_data_at s frame item
    x ← through method_below d.directs
    y ← through method_below d.virtuals
    answer (record { members = d; directs = x; virtuals = y })

  -- ---- stages of the code, which keeps that there is an answer, and goes over the methods a second time
  abbrev pub body_accepted : ℕ → Outcome Unit
  body_accepted item = body_at item >>= accepted

  abbrev pub method_accepted : ℕ → Outcome Unit
  method_accepted code = present code (body_at code) >>= accepted

  abbrev pub data_accepted : ℕ → Outcome Unit
  data_accepted item = data_below item >>= accepted

  unfoldable pub methods_pass : ℕ → ℕ → ℕ → Outcome ℕ
  methods_pass item from count = do
    r ← collect count (with_below (step_at s (methods_judge frame) item) method_below) (begin from)
    answer r.next.place

  unfoldable pub both_pass : ℕ → Methods → Outcome Unit
  both_pass item m = do
    p ← methods_pass item m.from m.directs
    q ← methods_pass item p m.virtuals
    answer tt

-- debug information that may be absent
abbrev pub debug_accepted : List ℕ → ℕ → ℕ → Outcome Unit
debug_accepted s strings item = present item (debug_at s strings item) >>= accepted
