-- The table as rules: no search.
use Rattle.std.specs.Prelude.{ℕ, ◌≤◌, ◌≡◌, List}
use Rattle.refusal.specs.Exact.{At}
use Rattle.decoded_value.specs.Shown.{Shown, nothing, is}
use Rattle.static_kinds.specs.Kinds.{TextKind, eight}

-- the text is that of no row
pub record Other (text : List ℕ) : Type 0 where
  pub of_no_row : {k : ℕ} {r : TextKind} → At eight k r → r.text ≡ text → ⊥

-- "those eight texts take 1f, 00, 02, 03, 04, 06, 10 and 11 in that order, any other text one of 15 to 1e"
pub data Takes (text : List ℕ) (kind : ℕ) : Type 0 where
  its_own : {k : ℕ} {r : TextKind} → At eight k r → r.text ≡ text → r.kind ≡ kind → Takes text kind
  any_of : Other text → 0x15 ≤ kind → kind ≤ 0x1e → Takes text kind

-- "the zero, false or null that the field's type text calls for (null for any text but Z, B, S, C, I, J, F and D)"
pub data Unset (text : List ℕ) : Shown → Type 0 where
  of_row : {k : ℕ} {r : TextKind} → At eight k r → r.text ≡ text → Unset text (is r.kind r.unset)
  null_else : Other text → Unset text (is 0x1e nothing)
