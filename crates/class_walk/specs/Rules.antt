-- A class with all below it as a rule: each item that is reached obeys its own rules, with no walk.
use Rattle.std.specs.Prelude.{ℕ, ◌≤◌, List}
use Rattle.std.proofs.Math.Option.{Option}
use Rattle.refusal.specs.Exact.{Present, Alike}
use Rattle.frame.specs.declared.Frame.{Frame}
use Rattle.header.specs.declared.Header.{Header}
use Rattle.header.specs.Header.{up_to_end, frame_of, plain_frame}
use Rattle.type_list.specs.Rules.{TypesBelowRule}
use Rattle.class_ids.specs.Rules.{ClassRule}
use Rattle.class_members.specs.declared.Member.{Member}
use Rattle.class_data.specs.Rules.{DataRule}
use Rattle.code_bodies.specs.Rules.{CodeRule}
use Rattle.debug_info.specs.Rules.{DebugRule}
use Rattle.value_heads.specs.declared.Walk.{Walk}
use Rattle.value_heads.specs.Kinds.{walk_of}
use Rattle.encoded_value.specs.Tree.{Tree}
use Rattle.encoded_value.specs.Rules.{ArrayRule}
use Rattle.annotation_walk.specs.Rules.{DirectoryBelow}
use Rattle.class_walk.specs.Methods.{Body, DataBelow}
use Rattle.class_walk.specs.Classes.{ClassBelow, static_count, value_count}

module _ (s : List ℕ) (frame : Frame) where
  pub record BodyRule (item : ℕ) (b : Body) : Type 0 where
    pub code : CodeRule s frame item b.code
    pub debug : Present (DebugRule s frame.strings b.code.head.debug) b.code.head.debug b.debug

  -- the code of a method, none exactly where its offset is 0
  abbrev pub MethodRule : Member → Option Body → Type 0
  MethodRule m = Present (BodyRule m.code) m.code

  pub record DataBelowRule (item : ℕ) (d : DataBelow) : Type 0 where
    pub members : DataRule s frame item d.members
    pub directs : Alike MethodRule d.members.directs d.directs
    pub virtuals : Alike MethodRule d.members.virtuals d.virtuals

-- static values: an array at depth 1, up to its end
pub record ValuesRule (s : List ℕ) (w : Walk) (p : ℕ) (l : List Tree) : Type 0 where
  pub ends : ℕ
  pub body : ArrayRule s w p l ends

-- class n and all that it leads to
pub record ClassBelowRule (f : List ℕ) (header : Header) (handles n : ℕ) (c : ClassBelow) : Type 0 where
  pub own : ClassRule f (plain_frame header) header.end header.classes.offset n c.own
  pub interfaces : TypesBelowRule f header c.own.interfaces c.interfaces
  pub annotations : Present (DirectoryBelow (up_to_end f header) (frame_of header handles) c.own.directory) c.own.directory c.annotations
  pub members : Present (DataBelowRule (up_to_end f header) (plain_frame header) c.own.«data») c.own.«data» c.members
  pub values : Present (ValuesRule (up_to_end f header) (walk_of (frame_of header handles) c.own.values) c.own.values) c.own.values c.values
  -- "the list may not be longer than the static fields"
  pub fits : value_count c.values ≤ static_count c.members
