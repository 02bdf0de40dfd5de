-- Class data as a reading: "its own bytes, whole, in stored order".
use Rattle.std.specs.Prelude.{ℕ, true, false, cond, List, [], length, get_or, ltb, eqb}
use Rattle.refusal.specs.Refusals.{not_there}
use Rattle.refusal.specs.Outcome.{Outcome, answer, ◌>>=◌, given}
use Rattle.refusal.specs.Rows.{Found}
use Rattle.leb128.specs.Leb.{uleb_at}
use Rattle.frame.specs.declared.Frame.{Frame}
use Rattle.class_members.specs.declared.Member.{Member}
use Rattle.class_members.specs.declared.MemberJudge.{MemberJudge}
use Rattle.class_data.specs.declared.Counts.{Counts}
use Rattle.class_data.specs.declared.KeptMembers.{KeptMembers}
use Rattle.class_data.specs.declared.Methods.{Methods}
use Rattle.class_members.specs.Members.{members_at, kept_members, nobody}

-- two numbers, and two pairs of them
pub record Both : Type 0 where
  pub first : ℕ
  pub second : ℕ

unfoldable pub two_numbers_at : List ℕ → ℕ → ℕ → Outcome (Found Both ℕ)
two_numbers_at s item p = do
  a ← uleb_at s item p
  b ← uleb_at s item a.next
  answer (record { item = record { first = a.item; second = b.item }; next = b.next })

unfoldable pub counts_at : List ℕ → ℕ → Outcome (Found Counts ℕ)
counts_at s item = do
  a ← two_numbers_at s item item
  b ← two_numbers_at s item a.next
  answer (record { item = record { statics = a.item.first; instances = a.item.second; directs = b.item.first; virtuals = b.item.second }; next = b.next })

-- two lists of one kind
pub record Two : Type 0 where
  pub first : List Member
  pub second : List Member

unfoldable pub two_at : List ℕ → MemberJudge → ℕ → ℕ → ℕ → ℕ → Outcome (Found Two ℕ)
two_at s j item from m n = do
  x ← members_at s j item from m
  y ← members_at s j item x.next.place n
  answer (record { item = record { first = x.item; second = y.item }; next = y.next.place })

abbrev pub fields_judge : Frame → MemberJudge
fields_judge frame = record { limit = frame.fields; code = false; start = frame.start }

abbrev pub methods_judge : Frame → MemberJudge
methods_judge frame = record { limit = frame.methods; code = true; start = frame.start }

-- what the bytes say, where the methods begin, and the place after them
pub record ClassData : Type 0 where
  pub statics : List Member
  pub instances : List Member
  pub directs : List Member
  pub virtuals : List Member
  pub methods : ℕ
  pub end : ℕ

unfoldable pub class_data_at : List ℕ → Frame → ℕ → Outcome ClassData
class_data_at s frame item = do
  c ← counts_at s item
  x ← two_at s (fields_judge frame) item c.next c.item.statics c.item.instances
  y ← two_at s (methods_judge frame) item x.next c.item.directs c.item.virtuals
  answer (record { statics = x.item.first; instances = x.item.second; directs = y.item.first; virtuals = y.item.second; methods = x.next; end = y.next })

-- what is handed out of it: the four counts and the end
abbrev pub counts : ClassData → Counts
counts d = record { statics = length d.statics; instances = length d.instances; directs = length d.directs; virtuals = length d.virtuals }

unfoldable pub extent_at : List ℕ → Frame → ℕ → Outcome (Found Counts ℕ)
extent_at s frame item = do
  d ← class_data_at s frame item
  answer (record { item = counts d; next = d.end })

-- how many methods either list has, and where they begin
unfoldable pub methods_at : List ℕ → Frame → ℕ → Outcome Methods
methods_at s frame item = do
  d ← class_data_at s frame item
  answer (record { directs = length d.directs; virtuals = length d.virtuals; from = d.methods })

-- one of four by the number of a list, or what stands for none: 0 static, 1 instance, 2 direct, 3 virtual
abbrev pub one_of_four : {A : Type 0} → ℕ → A → A → A → A → A → A
one_of_four list a b c d e = cond (eqb list 0) a (cond (eqb list 1) b (cond (eqb list 2) c (cond (eqb list 3) d e)))

abbrev pub list_of : ℕ → ClassData → List Member
list_of list d = one_of_four list d.statics d.instances d.directs d.virtuals []

-- a member by its list and number: the item's own rules first, then 7
unfoldable pub member_of_list : List ℕ → Frame → ℕ → ℕ → ℕ → Outcome Member
member_of_list s frame item list k = do
  d ← class_data_at s frame item
  given (ltb k (length (list_of list d))) not_there (answer (get_or (list_of list d) k nobody))

-- ---- stages of the code, which keeps one member of each list and the counts
pub record KeptTwo : Type 0 where
  pub first : Member
  pub second : Member
  pub next : ℕ

unfoldable pub kept_two : List ℕ → MemberJudge → ℕ → ℕ → ℕ → ℕ → ℕ → Outcome KeptTwo
kept_two s j item from m n k = do
  x ← kept_members s j item from m k
  y ← kept_members s j item x.next n k
  answer (record { first = x.item; second = y.item; next = y.next })

pub record KeptData : Type 0 where
  pub counts : Counts
  pub members : KeptMembers
  pub methods : ℕ
  pub end : ℕ

unfoldable pub kept_data_at : List ℕ → Frame → ℕ → ℕ → Outcome KeptData
kept_data_at s frame item k = do
  c ← counts_at s item
  x ← kept_two s (fields_judge frame) item c.next c.item.statics c.item.instances k
  y ← kept_two s (methods_judge frame) item x.next c.item.directs c.item.virtuals k
  answer (record { counts = c.item; members = record { statics = x.first; instances = x.second; directs = y.first; virtuals = y.second }; methods = x.next; end = y.next })

-- the two lists of methods, of which only that they are allowed is kept
unfoldable pub methods_from : List ℕ → Frame → ℕ → Counts → ℕ → Outcome Methods
methods_from s frame item c from = do
  y ← kept_two s (methods_judge frame) item from c.directs c.virtuals 0
  answer (record { directs = c.directs; virtuals = c.virtuals; from = from })

unfoldable pub count_in : ℕ → Counts → ℕ
count_in list c = one_of_four list c.statics c.instances c.directs c.virtuals 0

unfoldable pub member_in : ℕ → KeptMembers → Member
member_in list m = one_of_four list m.statics m.instances m.directs m.virtuals nobody
