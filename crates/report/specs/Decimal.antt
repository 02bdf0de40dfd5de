-- A number as decimal digits, one ASCII byte each, the highest first and no zero in front.
use Rattle.std.specs.Prelude.{ℕ, zero, suc, ◌+◌, ◌-◌, ◌*◌, ◌/◌, ◌%◌, ◌≤◌, ◌<◌, ◌≡◌, cond, List, [], ◌∷◌, ◌++◌, ltb}

-- the digits of n, where it has at most k: below ten its one digit, otherwise those of n / 10 and then the digit n % 10
unfoldable pub digits_in : ℕ → ℕ → List ℕ
digits_in zero n = []
digits_in (suc k) n = cond (ltb n 10) ((48 + n) ∷ []) (digits_in k (n / 10) ++ ((48 + n % 10) ∷ []))

-- n has no more digits than n + 1
unfoldable pub decimal : ℕ → List ℕ
decimal n = digits_in (suc n) n

-- what digits say: ten times what stood before, and the digit
unfoldable pub valued : ℕ → List ℕ → ℕ
valued before [] = before
valued before (d ∷ ds) = valued (10 * before + (d - 48)) ds

-- are these digits, 0x30 to 0x39
pub data Digits : List ℕ → Type 0 where
  none : Digits []
  digit : {d : ℕ} {ds : List ℕ} → 48 ≤ d → d < 58 → Digits ds → Digits (d ∷ ds)

-- the digits of n as a rule: they say n, and a zero stands in front of none but itself
pub record Decimal (n : ℕ) (text : List ℕ) : Type 0 where
  pub digits : Digits text
  pub says : valued 0 text ≡ n
  pub first : ℕ
  pub others : List ℕ
  pub begins : text ≡ first ∷ others
  pub no_zero : 0 < n → 48 < first
  pub alone : n ≡ 0 → others ≡ []
