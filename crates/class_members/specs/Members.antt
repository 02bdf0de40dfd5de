-- The members of a list as readings. `s` ends where the data section ends, `item` is the place of the class data.
use Rattle.std.specs.Prelude.{ℕ, ◌+◌, Bool, true, false, cond, List, length, ltb}
use Rattle.refusal.specs.Refusals.{out_of_order, wrong_index, wrong_offset}
use Rattle.refusal.specs.Outcome.{Outcome, answer, ◌>>=◌, given}
use Rattle.refusal.specs.Rows.{Found, collect}
use Rattle.refusal.specs.Choose.{choose}
use Rattle.leb128.specs.Leb.{uleb_at}
use Rattle.frame.specs.Offsets.{allowed_or_absent}
use Rattle.class_members.specs.declared.Member.{Member}
use Rattle.class_members.specs.declared.MemberJudge.{MemberJudge}

-- "a later difference of 0 is 15"
unfoldable pub apart : Bool → ℕ → Bool
apart later difference = cond later (ltb 0 difference) true

-- "Offset 0 means absent for .. code"; "Multiples of 4: .. code"; the place of that 8 is the class data
unfoldable pub offset_at : List ℕ → ℕ → ℕ → ℕ → Outcome (Found ℕ ℕ)
offset_at s start item p = do
  c ← uleb_at s item p
  given (allowed_or_absent start (length s) true c.item) (wrong_offset item) (answer c)

-- a method has a code offset, a field has none
unfoldable pub code_at : List ℕ → Bool → ℕ → ℕ → ℕ → Outcome (Found ℕ ℕ)
code_at s code start item p = cond code (offset_at s start item p) (answer (record { item = 0; next = p }))

-- flags and code offset
unfoldable pub rest_at : List ℕ → MemberJudge → ℕ → ℕ → ℕ → Outcome (Found Member ℕ)
rest_at s j item index p = do
  flags ← uleb_at s item p
  code ← code_at s j.code j.start item flags.next
  answer (record { item = record { index = index; flags = flags.item; code = code.item }; next = code.next })

-- a member after one whose index is `base`: "Member indices start with the first number and add each difference"; "11: an index in the file is out of range"
unfoldable pub member_at : List ℕ → MemberJudge → ℕ → ℕ → Bool → ℕ → Outcome (Found Member ℕ)
member_at s j item base later p = do
  d ← uleb_at s item p
  given (apart later d.item) (out_of_order item)
      (given (ltb (base + d.item) j.limit) (wrong_index item)
      (rest_at s j item (base + d.item) d.next))

-- where the going over a list stands: the next place, the index that the next difference is added to, and whether a member came before
pub record Run : Type 0 where
  pub place : ℕ
  pub base : ℕ
  pub later : Bool

unfoldable pub step_at : List ℕ → MemberJudge → ℕ → Run → Outcome (Found Member Run)
step_at s j item t = do
  m ← member_at s j item t.base t.later t.place
  answer (record { item = m.item; next = record { place = m.next; base = m.item.index; later = true } })

abbrev pub nobody : Member
nobody = record { index = 0; flags = 0; code = 0 }

-- "Each of the four lists starts anew."
abbrev pub begin : ℕ → Run
begin from = record { place = from; base = 0; later = false }

unfoldable pub members_at : List ℕ → MemberJudge → ℕ → ℕ → ℕ → Outcome (Found (List Member) Run)
members_at s j item from count = collect count (step_at s j item) (begin from)

-- a stage of the code: one member is kept, and the place
abbrev pub placed : Found Member Run → Outcome (Found Member ℕ)
placed r = answer (record { item = r.item; next = r.next.place })

unfoldable pub kept_members : List ℕ → MemberJudge → ℕ → ℕ → ℕ → ℕ → Outcome (Found Member ℕ)
kept_members s j item from count k = choose count (step_at s j item) nobody k (begin from) >>= placed
