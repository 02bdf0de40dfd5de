-- LEB128 numbers as rules: which bytes encode which number, with no walk.
use Rattle.std.specs.Prelude.{ℕ, suc, ◌≤◌, ◌<◌, ◌≡◌, ◌⊎◌, List, length, ℤ}
use Rattle.std.proofs.Math.Option.{Option}
use Rattle.refusal.specs.Rows.{Found}
use Rattle.refusal.specs.Exact.{At}
use Rattle.word.specs.Bytes.{Stands}
use Rattle.leb128.specs.Leb.{weight, fifth, signed, less_one}

-- one byte to `most`, each but the last of 128 or more
pub record Groups (most : ℕ) (bs : List ℕ) : Type 0 where
  pub some_byte : 1 ≤ length bs
  pub few : length bs ≤ most
  pub goes_on : {k b : ℕ} → At bs k b → suc k < length bs → 128 ≤ b
  pub stops : {k b : ℕ} → At bs k b → suc k ≡ length bs → b < 128

-- the bytes that stand at p and are a number
pub record Bytes (s : List ℕ) (p : ℕ) (bs : List ℕ) (next : ℕ) : Type 0 where
  pub stands : Stands s p bs next
  pub groups : Groups 5 bs

pub record Uleb (s : List ℕ) (p : ℕ) (r : Found ℕ ℕ) : Type 0 where
  pub bs : List ℕ
  pub bytes : Bytes s p bs r.next
  pub fifth_byte : fifth bs ≤ 0x0f
  pub value : weight bs ≡ r.item

pub record Sleb (s : List ℕ) (p : ℕ) (r : Found ℤ ℕ) : Type 0 where
  pub bs : List ℕ
  pub bytes : Bytes s p bs r.next
  pub fifth_byte : (fifth bs ≤ 0x07) ⊎ (0x78 ≤ fifth bs)
  pub value : signed bs ≡ r.item

pub record PlusOneRule (s : List ℕ) (p : ℕ) (r : Found (Option ℕ) ℕ) : Type 0 where
  pub number : ℕ
  pub uleb : Uleb s p (record { item = number; next = r.next })
  pub value : less_one number ≡ r.item
