-- A step of the proof that each index is answered: in the one reading of a file, each index into a table is a number of that table.
-- Assumes nothing.
use Prim.Native.Nat.{ℕ, ◌≤◌, ◌<◌}
use mathlib.Core.Bool.{cond}
use mathlib.Core.Option.{Option}
use mathlib.Core.List.{List}
use lib.ListN.{length}
use lib.Dec.{eqb}
use Rattle.refusal.specs.Exact.{At}
use Rattle.ids.specs.declared.MemberId.{MemberId}
use Rattle.ids.specs.declared.Handle.{Handle}
use Rattle.class_members.specs.declared.Member as M
use Rattle.handlers.specs.declared.Pair.{Pair}
use Rattle.handlers.specs.Handlers.{Handler}
use Rattle.debug_info.specs.Debug.{Debug}
use Rattle.encoded_value.specs.Tree.{Named, index, annotation, elements_of}
use Rattle.annotation_items.specs.Items.{AnnotationItem}
use Rattle.annotation_walk.specs.Below.{Under}
use Rattle.class_walk.specs.Methods.{Body, DataBelow}
use Rattle.class_walk.specs.Classes.{ClassBelow}
use Rattle.whole_check.specs.File.{ProtoBelow, File}
use Rattle.promises.specs.Tables.{listed}
use Rattle.promises.specs.Annotations.{under, ItemIn}
use Rattle.promises.specs.Values.{ValueIn}
use Rattle.promises.specs.Numbers.{IfThere, IfGiven}

-- of each item of a list
abbrev pub All : {A : Type 0} → (A → Type 0) → List A → Type 0
All {A} P l = (k : ℕ) (a : A) → At l k a → P a

module _ (r : File) where
  abbrev pub String : ℕ → Type 0
  String n = n < length r.strings

  abbrev pub Kind : ℕ → Type 0
  Kind n = n < length r.types

  abbrev pub Field : ℕ → Type 0
  Field n = n < length r.fields

  abbrev pub Method : ℕ → Type 0
  Method n = n < length r.methods

  pub record ProtoIndices (p : ProtoBelow) : Type 0 where
    pub shorty : String p.own.shorty
    pub returns : Kind p.own.return_type
    pub parameters : All Kind (listed p.parameters)

  -- a field has a type, a method a proto
  pub record MemberIndices (Own : ℕ → Type 0) (m : MemberId) : Type 0 where
    pub class : Kind m.class
    pub kind : Own m.kind
    pub name : String m.name

  -- "Handle types 0 to 3 name a field, 4 to 8 a method."
  pub record HandleIndices (h : Handle) : Type 0 where
    pub field : h.kind ≤ 3 → Field h.number
    pub method : 3 < h.kind → Method h.number

  -- the types that handlers catch, and the names of parameters
  pub record BodyIndices (b : Body) : Type 0 where
    pub catches : All (λ (h : Handler). All (λ (p : Pair). Kind p.kind) h.pairs) b.code.handlers.handlers
    pub names : IfThere (λ (d : Debug). All (IfThere String) d.names) b.debug

  pub record DataIndices (d : DataBelow) : Type 0 where
    pub statics : All (λ (m : M.Member). Field m.index) d.members.statics
    pub instances : All (λ (m : M.Member). Field m.index) d.members.instances
    pub directs : All (λ (m : M.Member). Method m.index) d.members.directs
    pub virtuals : All (λ (m : M.Member). Method m.index) d.members.virtuals
    pub direct_bodies : All (IfThere BodyIndices) d.directs
    pub virtual_bodies : All (IfThere BodyIndices) d.virtuals

  pub record ClassIndices (c : ClassBelow) : Type 0 where
    pub class : Kind c.own.class
    pub superclass : IfGiven Kind c.own.superclass
    pub source : IfGiven String c.own.source
    pub interfaces : All Kind (listed c.interfaces)
    pub members : IfThere DataIndices c.members

  -- "11: an index in the file is out of range": none is
  pub record Indices : Type 0 where
    pub types : All String r.types
    pub protos : All ProtoIndices r.protos
    pub fields : All (MemberIndices Kind) r.fields
    pub methods : All (MemberIndices (λ (n : ℕ). n < length r.protos)) r.methods
    pub handles : All HandleIndices r.handles
    pub classes : All ClassIndices r.classes

-- ---- values, annotations and directories
-- how many rows the table of a code has: "15 proto, 16 handle, 17 string, 18 type, 19 field, 1a method, 1b enum"; an enum is a field
abbrev pub rows : File → ℕ → ℕ
rows r code =
    cond (eqb code 0x15) (length r.protos)
    (cond (eqb code 0x16) (length r.handles)
    (cond (eqb code 0x17) (length r.strings)
    (cond (eqb code 0x18) (length r.types)
    (cond (eqb code 0x1a) (length r.methods) (length r.fields)))))

pub record ValueIndices (r : File) : Type 0 where
  -- a value that is an index, at any depth
  pub index_value : {code n : ℕ} → ValueIn r (index code n) → (0x15 ≤ code) × (code < 0x1c) × (n < rows r code)
  -- the type of an annotation, and the names of its elements: of an item, and of one inside a value
  pub item_type : {a : AnnotationItem} → ItemIn r a → a.annotation.type_index < length r.types
  pub item_name : {k : ℕ} {a : AnnotationItem} {e : Named} → ItemIn r a → At a.annotation.elements k e → e.name < length r.strings
  pub body_type : {p q t : ℕ} (es : List Named) → ValueIn r (annotation p q t (elements_of es)) → t < length r.types
  pub body_name : {p q t k : ℕ} {e : Named} (es : List Named) → ValueIn r (annotation p q t (elements_of es)) → At es k e → e.name < length r.strings
  -- the entries of a directory. A parameter entry's index is a method
  pub field_index : {n e : ℕ} {c : ClassBelow} {u : Under (List AnnotationItem)} → At r.classes n c → At (under (λ d. d.fields) c.annotations) e u → u.index < length r.fields
  pub method_index : {n e : ℕ} {c : ClassBelow} {u : Under (List AnnotationItem)} → At r.classes n c → At (under (λ d. d.methods) c.annotations) e u → u.index < length r.methods
  pub parameter_index : {n e : ℕ} {c : ClassBelow} {u : Under (List (Option (List AnnotationItem)))} → At r.classes n c → At (under (λ d. d.parameters) c.annotations) e u → u.index < length r.methods
