-- The string table and the lookup as rules: what stands where, with no walk.
use Rattle.std.specs.Prelude.{ℕ, ◌≡◌, false, List}
use Rattle.std.proofs.Math.Option.{Option}
use Rattle.refusal.specs.Exact.{Each, Rising, Sought}
use Rattle.word.specs.Words.{u32_at}
use Rattle.header.specs.declared.Header.{Header}
use Rattle.header.specs.Header.{up_to_end}
use Rattle.frame.specs.Offsets.{Allowed}
use Rattle.text.specs.Text.{Text}
use Rattle.text.specs.Rules.{StringRule}
use Rattle.text_order.specs.Order.{Before}
use Rattle.string_ids.specs.Strings.{string_place}

-- string n: the record names an item in the data section, and the text stands there
pub record StringAt (f : List ℕ) (header : Header) (n : ℕ) (t : Text) : Type 0 where
  pub item : ℕ
  pub offset : u32_at header.order f (string_place header n) ≡ item
  pub allowed : Allowed header.start header.end false item
  pub text : StringRule (up_to_end f header) item t

abbrev pub Precedes : Text → Text → Type 0
Precedes a b = Before a.units b.units

-- for each n below the count string n, and the strings rise
pub record StringsRule (f : List ℕ) (header : Header) (l : List Text) : Type 0 where
  pub each : Each (StringAt f header) header.strings.count l
  pub order : Rising Precedes l

-- "Looking up a text answers its number, or "none" exactly when no string of the table has those bytes. The lookup applies each string's rules .. first, the order rule included."
pub record LookupRule (f : List ℕ) (header : Header) (text : List ℕ) (found : Option ℕ) : Type 0 where
  pub strings : List Text
  pub rules : StringsRule f header strings
  pub number : Sought (λ (t : Text). t.bytes ≡ text) strings found
