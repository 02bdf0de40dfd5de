-- Document 02, ticket 1, as rules: which bytes say it, with no walk and no order of tests.
use Rattle.std.specs.Prelude.{ℕ, ◌≤◌, ◌<◌, ◌≡◌, true, false, List, [], length}
use Rattle.std.proofs.Math.Option.{Option, none, some}
use Rattle.refusal.specs.Exact.{Present, At}
use Rattle.header.specs.declared.Header.{Header}
use Rattle.header.specs.Header.{up_to_end, plain_frame}
use Rattle.header.specs.Rules.{HeaderRule}
use Rattle.map_list.specs.Map.{Map}
use Rattle.map_list.specs.Rules.{MapRule}
use Rattle.text.specs.Text.{Text}
use Rattle.string_ids.specs.Rules.{StringAt}
use Rattle.ids.specs.declared.MemberId.{MemberId}
use Rattle.ids.specs.Rules.{TypeRule, MemberIdRule}
use Rattle.class_ids.specs.declared.Class.{Class}
use Rattle.class_ids.specs.Rules.{ClassRule}
use Rattle.class_members.specs.declared.Member.{Member}
use Rattle.class_data.specs.Data.{ClassData}
use Rattle.class_data.specs.Rules.{DataRule}
use Rattle.encoded_value.specs.Tree.{Tree}
use Rattle.encoded_value.specs.Rules.{ArrayRule}
use Rattle.decoded_value.specs.Shown.{Shown, shown}
use Rattle.static_kinds.specs.Rules.{Takes, Unset}
use Rattle.table_readers.specs.declared.Opened.{Opened}
use Rattle.value_readers.specs.Opening.{walk_in}
use Rattle.static_fields.specs.Pairing.{StaticField, WrongKind}

-- the header, and how many method handles the map gives
pub record OpenedRule (f : List ℕ) (o : Opened) : Type 0 where
  pub header : HeaderRule f o.header
  pub map : Map
  pub map_rule : MapRule f o.header map
  pub handles : map.handles.count ≡ o.handles

-- class c
pub record ClassIs (f : List ℕ) (header : Header) (c : ℕ) (r : Class) : Type 0 where
  pub below_count : c < header.classes.count
  pub rule : ClassRule f (plain_frame header) header.end header.classes.offset c r

module _ (f : List ℕ) (header : Header) where
  -- the text of the type of field n
  pub record TypeTextRule (n : ℕ) (text : List ℕ) : Type 0 where
    pub member : MemberId
    pub string : ℕ
    pub spelt : Text
    pub field_is : MemberIdRule f (plain_frame header) header.types.count header.fields.offset n member
    pub type_is : TypeRule f (plain_frame header) header.types.offset member.kind string
    pub string_is : StringAt f header string spelt
    pub bytes : spelt.bytes ≡ text

  -- the static fields of class data, none where it is absent
  pub data FieldsRule (at : ℕ) : List Member → Type 0 where
    no_data : at ≡ 0 → FieldsRule at []
    of_data : {d : ClassData} → 0 < at → DataRule (up_to_end f header) (plain_frame header) at d → FieldsRule at d.statics

  -- "An absent list is empty"
  pub data StoredRule (handles at : ℕ) : List Tree → Type 0 where
    no_list : at ≡ 0 → StoredRule handles at []
    a_list : {vs : List Tree} {end : ℕ} → 0 < at → ArrayRule (up_to_end f header) (walk_in header handles at) at vs end → StoredRule handles at vs

  -- field m with "the k-th static value, or, past the end of the list, the zero, false or null that the field's type text calls for"
  pub data ValueOf (m : Member) (k : ℕ) (values : List Tree) : StaticField → Type 0 where
    is_stored : {v : Tree} → At values k v → ValueOf m k values (record { field = m.index; flags = m.flags; stored = true; value = shown v })
    by_default : {text : List ℕ} {v : Shown} → length values ≤ k → TypeTextRule m.index text → Unset text v → ValueOf m k values (record { field = m.index; flags = m.flags; stored = false; value = v })

  pub record PairRule (handles k : ℕ) (r : Class) (a : StaticField) : Type 0 where
    pub fields : List Member
    pub values : List Tree
    pub member : Member
    pub fields_rule : FieldsRule r.«data» fields
    pub values_rule : StoredRule handles r.values values
    -- "the list may not be longer than the static fields"
    pub enough : length values ≤ length fields
    pub number : At fields k member
    pub value : ValueOf member k values a

  -- "those eight texts take .., any other text one of 15 to 1e": the kind of v fits field m, or does not
  pub record FitsField (m : Member) (v : Tree) : Type 0 where
    pub text : List ℕ
    pub text_is : TypeTextRule m.index text
    pub takes : Takes text (shown v).kind

  pub record MissesField (m : Member) (v : Tree) : Type 0 where
    pub text : List ℕ
    pub text_is : TypeTextRule m.index text
    pub takes_not : Takes text (shown v).kind → ⊥

  -- "names the first field whose value has the wrong kind, or "none" exactly when every kind fits"
  pub data FirstWrong (fields : List Member) (values : List Tree) : Option WrongKind → Type 0 where
    first_at : {k : ℕ} {m : Member} {v : Tree} → At fields k m → At values k v → MissesField m v
        → ((j : ℕ) (l : Member) (u : Tree) → j < k → At fields j l → At values j u → FitsField l u)
        → FirstWrong fields values (some (record { number = k; field = m.index }))
    all_fit : ((j : ℕ) (l : Member) (u : Tree) → At fields j l → At values j u → FitsField l u) → FirstWrong fields values none

  pub record FirstWrongRule (handles : ℕ) (r : Class) (a : Option WrongKind) : Type 0 where
    pub fields : List Member
    pub values : List Tree
    pub fields_rule : FieldsRule r.«data» fields
    pub values_rule : StoredRule handles r.values values
    pub enough : length values ≤ length fields
    pub first : FirstWrong fields values a

-- static field k of class c; none exactly where the class has no class data
pub record StaticFieldRule (f : List ℕ) (c k : ℕ) (a : Option StaticField) : Type 0 where
  pub opened : Opened
  pub class : Class
  pub opened_rule : OpenedRule f opened
  pub class_is : ClassIs f opened.header c class
  pub pair : Present (PairRule f opened.header opened.handles k class) class.«data» a

-- the first static field of class c whose value has the wrong kind
pub record WrongKindRule (f : List ℕ) (c : ℕ) (a : Option WrongKind) : Type 0 where
  pub opened : Opened
  pub class : Class
  pub opened_rule : OpenedRule f opened
  pub class_is : ClassIs f opened.header c class
  pub first : FirstWrongRule f opened.header opened.handles class a
