-- The parts of a value as rules: which bytes at a place are a head byte, a number or an index. No walk.
use Rattle.std.specs.Prelude.{ℕ, ◌%◌, ◌/◌, ◌<◌, ◌≡◌, List, length, get_or}
use Rattle.refusal.specs.Rows.{Found}
use Rattle.word.specs.Bytes.{Stands}
use Rattle.leb128.specs.Rules.{Uleb}
use Rattle.value_heads.specs.Kinds.{arguments}
use Rattle.value_heads.specs.Numbers.{little}

-- an allowed head byte
pub record HeadByteRule (s : List ℕ) (p h : ℕ) : Type 0 where
  pub room : p < length s
  pub byte : get_or s p 0 ≡ h
  pub known : h / 32 < get_or arguments (h % 32) 0

-- n bytes and their number
pub record NumberRule (s : List ℕ) (p n : ℕ) (r : Found ℕ ℕ) : Type 0 where
  pub bs : List ℕ
  pub stands : Stands s p bs r.next
  pub size : length bs ≡ n
  pub value : little bs ≡ r.item

pub record IndexRule (s : List ℕ) (count p : ℕ) (r : Found ℕ ℕ) : Type 0 where
  pub uleb : Uleb s p r
  pub range : r.item < count
