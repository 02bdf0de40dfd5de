-- The members of a list as rules: which bytes say what, with no walk.
use Rattle.std.specs.Prelude.{ℕ, suc, ◌+◌, ◌<◌, ◌≡◌, Bool, true, false, List, [], ◌∷◌, length, take}
use Rattle.refusal.specs.Exact.{Row, At, Each, Rising}
use Rattle.leb128.specs.Rules.{Uleb}
use Rattle.frame.specs.Offsets.{AllowedOrAbsent}
use Rattle.class_members.specs.declared.Member.{Member}
use Rattle.class_members.specs.declared.MemberJudge.{MemberJudge}

-- a method's code offset stands at p and ends at q; a field has none
abbrev pub CodeOffsetRule : List ℕ → Bool → ℕ → ℕ → ℕ → ℕ → Type 0
CodeOffsetRule s true start p code q = Uleb s p (record { item = code; next = q }) × AllowedOrAbsent start (length s) true code
CodeOffsetRule s false start p code q = (0 ≡ code) × (p ≡ q)

-- what stands in the file for a member
pub record StoredMember : Type 0 where
  pub difference : ℕ
  pub flags : ℕ
  pub code : ℕ

-- it stands from p to q
pub record StoredMemberRule (s : List ℕ) (j : MemberJudge) (p : ℕ) (t : StoredMember) (q : ℕ) : Type 0 where
  pub after_difference : ℕ
  pub after_flags : ℕ
  pub difference : Uleb s p (record { item = t.difference; next = after_difference })
  pub flags : Uleb s after_difference (record { item = t.flags; next = after_flags })
  pub code : CodeOffsetRule s j.code j.start after_flags t.code q

-- what the differences add up to
unfoldable pub added_up : List StoredMember → ℕ
added_up [] = 0
added_up (t ∷ l) = t.difference + added_up l

-- member number k of those that are stored: "Member indices start with the first number and add each difference"
pub record StoredAs (stored : List StoredMember) (k : ℕ) (m : Member) : Type 0 where
  pub difference : ℕ
  pub stands : At stored k (record { difference = difference; flags = m.flags; code = m.code })
  pub index : added_up (take (suc k) stored) ≡ m.index

abbrev pub LowerIndex : Member → Member → Type 0
LowerIndex a b = a.index < b.index

-- a list of members from p to q: "Each of the four lists starts anew."
pub record MembersRule (s : List ℕ) (j : MemberJudge) (p count : ℕ) (l : List Member) (q : ℕ) : Type 0 where
  pub stored : List StoredMember
  pub row : Row (StoredMemberRule s j) count p stored q
  pub members : Each (StoredAs stored) count l
  -- "an index in the file is out of range"
  pub below : {k : ℕ} {m : Member} → At l k m → m.index < j.limit
  -- "a later difference of 0 is 15": indices rise strictly
  pub rises : Rising LowerIndex l
