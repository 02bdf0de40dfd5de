-- What the readers of strings answer, as rules: of the file only the header and the strings are looked at, so that they hold of files that are not accepted too.
use Rattle.std.specs.Prelude.{ℕ, ◌<◌, List}
use Rattle.std.proofs.Math.Option.{Option}
use Rattle.header.specs.declared.Header.{Header}
use Rattle.header.specs.Rules.{HeaderRule}
use Rattle.text.specs.Text.{Text}
use Rattle.string_ids.specs.Rules.{StringAt, LookupRule}

-- string n, by the header and that string alone
pub record StringNumber (f : List ℕ) (n : ℕ) (t : Text) : Type 0 where
  pub header : Header
  pub header_rule : HeaderRule f header
  pub below_count : n < header.strings.count
  pub string : StringAt f header n t

-- the number of a text, or none: "header rules", then the lookup's
pub record FindStringRule (f text : List ℕ) (found : Option ℕ) : Type 0 where
  pub header : Header
  pub header_rule : HeaderRule f header
  pub lookup : LookupRule f header text found
