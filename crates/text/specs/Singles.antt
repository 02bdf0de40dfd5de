-- Forms of one byte, one after the other: a stage of the code, which goes over eight of them in one turn.
use Rattle.std.specs.Prelude.{ℕ, ◌+◌, ◌<◌, ◌≤◌, List, length, get_or}

-- n bytes from p on, of which each is a unit by itself
pub data Singles (s : List ℕ) (p : ℕ) : ℕ → Type 0 where
  none_yet : Singles s p 0
  one_more : {n : ℕ} → Singles s p n → 0 < get_or s (p + n) 0 → get_or s (p + n) 0 < 0x80 → Singles s p (n + 1)

-- eight of them at most; where there are fewer, the slice goes on behind them
pub record FewSingles (s : List ℕ) (p n : ℕ) : Type 0 where
  pub few : n ≤ 8
  pub inside : p + n ≤ length s
  pub ahead : n < 8 → p + n < length s
  pub singles : Singles s p n
