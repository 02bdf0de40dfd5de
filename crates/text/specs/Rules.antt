-- A string data item as a rule: which bytes encode which text, with no walk.
use Rattle.std.specs.Prelude.{ℕ, ◌^◌, ◌<◌, ◌≡◌, List, length, get_or}
use Rattle.refusal.specs.Exact.{At}
use Rattle.word.specs.Bytes.{Stands}
use Rattle.leb128.specs.Rules.{Uleb}
use Rattle.text.specs.Units.{encode}
use Rattle.text.specs.Text.{Text}

-- each is a 16-bit unit
pub record Units (us : List ℕ) : Type 0 where
  pub each : {k u : ℕ} → At us k u → u < 2 ^ 16

-- the length, then the bytes that encode the units, then a zero byte
pub record StringRule (s : List ℕ) (item : ℕ) (t : Text) : Type 0 where
  pub stored : ℕ
  pub zero : ℕ
  pub number : Uleb s item (record { item = stored; next = t.start })
  pub units : Units t.units
  pub bytes : encode t.units ≡ t.bytes
  pub stands : Stands s t.start t.bytes zero
  pub room : zero < length s
  pub closed : get_or s zero 0 ≡ 0
  pub count : length t.units ≡ stored
