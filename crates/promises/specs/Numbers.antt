-- "The numbers and places that a file gives, in demand 3, are the indices tested by 11, table and list numbers below their counts, body offsets tested by 8, and nested
-- bodies' offsets. Map entries' offsets, link fields and instruction units give none." The words in which `readers_answer` says that each of them is answered.
use Rattle.std.specs.Prelude.{ℕ, ◌<◌, ◌≡◌, Bool, List, length, Some, None}
use Rattle.std.proofs.Math.Option.{Option, none, some}
use Rattle.refusal.specs.Outcome.{Outcome, answer}
use Rattle.refusal.specs.Exact.{At}
use Rattle.access_flags.specs.Flags.{flags}
use Rattle.std.specs.Prelude as S

-- a reader answers, and refuses nothing
abbrev pub Answers : {A : Type 0} → Outcome A → Type 0
Answers {A} o = (x : A) × (o ≡ answer x)

-- "table and list numbers below their counts": at each number below the count the list has an item, of which the fact holds
abbrev pub EachNumber : {A : Type 0} → ℕ → List A → (ℕ → A → Type 0) → Type 0
EachNumber {A} count l Fact = (n : ℕ) → n < count → (a : A) × At l n a × Fact n a

-- the same where the count is the list's own
abbrev pub EachIn : {A : Type 0} → List A → (ℕ → A → Type 0) → Type 0
EachIn l Fact = EachNumber (length l) l Fact

-- what may be absent is there
abbrev pub There : {A : Type 0} → Option A → Type 0
There {A} o = (a : A) × (o ≡ some a)

-- an offset that is not 0 leads to something that is there, of which the fact holds
abbrev pub LeadsTo : {A : Type 0} → ℕ → Option A → (A → Type 0) → Type 0
LeadsTo {A} offset o Fact = 0 < offset → (a : A) × (o ≡ some a) × Fact a

-- of what may be absent, if it is there
abbrev pub IfThere : {A : Type 0} → (A → Type 0) → Option A → Type 0
IfThere P none = Unit
IfThere P (some a) = P a

-- "0xFFFFFFFF means none for superclass and source file only."
abbrev pub IfGiven : (ℕ → Type 0) → S.Option ℕ → Type 0
IfGiven P None = Unit
IfGiven P (Some n) = P n

-- "absent class data, code or debug information is answered as none"
abbrev pub none_or : {A B : Type 0} → (A → B) → Option A → Option B
none_or g none = none
none_or g (some a) = some (g a)

-- how many bytes the flags of a class, or of a member, take in a lent output
abbrev pub flag_count : Bool → ℕ → ℕ
flag_count class value = length (flags class value)
