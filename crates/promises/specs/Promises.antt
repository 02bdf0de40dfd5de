-- What is promised of every file, over an arbitrary list of bytes.
use Rattle.std.specs.Prelude.{ℕ, ◌≡◌, ◌↔◌, List}
use Rattle.refusal.specs.Outcome.{answer}
use Rattle.refusal.specs.Exact.{Exact, At, Sought}
use Rattle.text.specs.Text.{Text}
use Rattle.table_readers.specs.Strings.{find_string}
use Rattle.whole_check.specs.File.{File, check_at}
use Rattle.promises.specs.Reads.{Reads, Obeys}
use Rattle.promises.specs.Tables.{TableReaders}
use Rattle.promises.specs.Methods.{MethodReaders}
use Rattle.promises.specs.Annotations.{AnnotationReaders}
use Rattle.promises.specs.Values.{ValueReaders}
use Rattle.promises.specs.Statics.{StaticReaders}
use Rattle.promises.specs.Given.{ReadersAnswer}

-- every reader, for every number: it answers what the one reading of the file says
pub record ReadersAgree (f : List ℕ) (r : File) : Type 1 where
  pub tables : TableReaders f r
  pub methods : MethodReaders f r
  pub annotations : AnnotationReaders f r
  pub values : ValueReaders f r
  pub statics : StaticReaders f r

pub record Promises (f : List ℕ) : Type 1 where
  -- "A file is accepted exactly when header, tables and every reached item obey document 01's rules"
  pub accepted_exactly : (check_at f ≡ answer tt) ↔ Obeys f
  -- "Two readings of an accepted file are equal."
  pub readings_equal : {r other : File} → Reads f r → Reads f other → r ≡ other
  -- "No two string numbers have the same text"
  pub strings_distinct : {r : File} {i j : ℕ} {a b : Text} → Reads f r → At r.strings i a → At r.strings j b → a.bytes ≡ b.bytes → i ≡ j
  -- ".. no two type numbers the same string."
  pub types_distinct : {r : File} {i j string : ℕ} → Reads f r → At r.types i string → At r.types j string → i ≡ j
  -- "Every reader answers for each number and place that the file gives."
  pub readers_answer : {r : File} → Reads f r → ReadersAnswer f r
  -- .. and what it answers is what the one reading of the file says
  pub readers_agree : {r : File} → Reads f r → ReadersAgree f r
  -- "Looking up a text answers its number, or none exactly when no string of the table has those bytes"
  pub lookup_exactly : {r : File} (text : List ℕ) → Reads f r → Exact (find_string f text) (Sought (λ (t : Text). t.bytes ≡ text) r.strings)
