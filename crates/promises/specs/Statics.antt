-- What the one reading of a file says to the readers of static fields with their values (document 02, ticket 1). `c` is a class, `k` a static field.
use Rattle.std.specs.Prelude.{ℕ, ◌≡◌, ◌↔◌, List, []}
use Rattle.std.proofs.Math.Option.{Option, none, some}
use Rattle.refusal.specs.Outcome.{Outcome, answer}
use Rattle.refusal.specs.Exact.{At}
use Rattle.class_members.specs.declared.Member.{Member}
use Rattle.encoded_value.specs.Tree.{Tree}
use Rattle.decoded_value.specs.Shown.{shown}
use Rattle.static_kinds.specs.Rules.{Takes}
use Rattle.static_fields.specs.Pairing.{StaticField, WrongKind, paired, first_wrong, static_field, wrong_kind}
use Rattle.class_walk.specs.Methods.{DataBelow}
use Rattle.class_walk.specs.Classes.{ClassBelow}
use Rattle.whole_check.specs.File.{File}
use Rattle.promises.specs.Tables.{listed, part_of}
use Rattle.promises.specs.Methods.{if_any}

-- the text of the type of field n
abbrev pub text_in : File → ℕ → Outcome (List ℕ)
text_in r n = part_of n r.fields (λ m. part_of m.kind r.types (λ t. part_of t r.strings (λ x. answer x.bytes)))

-- the static fields of a class, none where it has no class data
abbrev pub fields_of : Option DataBelow → List Member
fields_of none = []
fields_of (some d) = d.members.statics

-- the value v fits field m
pub record FitsIn (r : File) (m : Member) (v : Tree) : Type 0 where
  pub text : List ℕ
  pub text_is : text_in r m.index ≡ answer text
  pub takes : Takes text (shown v).kind

-- every stored kind fits
abbrev pub AllFit : File → ClassBelow → Type 0
AllFit r c = (k : ℕ) (m : Member) (v : Tree) → At (fields_of c.members) k m → At (listed c.values) k v → FitsIn r m v

pub record StaticReaders (f : List ℕ) (r : File) : Type 0 where
  -- static field k "together with its value"; of a class without class data none
  pub static_field_lem : (c k : ℕ) → static_field f c k ≡ part_of c r.classes (λ b. if_any (answer b.members) (λ d. part_of k d.members.statics (λ m. paired (text_in r) k m (listed b.values))))
  pub wrong_kind_lem : (c : ℕ) → wrong_kind f c ≡ part_of c r.classes (λ b. first_wrong (text_in r) 0 (fields_of b.members) (listed b.values))
  -- ".. or "none" exactly when every kind fits"
  pub none_exactly : {n : ℕ} {c : ClassBelow} → At r.classes n c → (wrong_kind f n ≡ answer none) ↔ AllFit r c
