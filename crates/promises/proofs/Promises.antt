-- The promises hold of every file.
-- Assumes nothing.
use Prim.Native.Nat.{ℕ}
use mathlib.Core.Path.{◌≡◌, refl, subst}
use mathlib.Core.List.{List}
use Rattle.refusal.specs.Exact.{Exact, Sought}
use Rattle.refusal.proofs.Exact.{same, exact_iff, accepted_iff}
use Rattle.header.specs.declared.Header.{Header}
use Rattle.header.specs.Header.{plain_frame}
use Rattle.header.proofs.Exactly.{header_same}
use Rattle.text.specs.Text.{Text}
use Rattle.string_ids.specs.Rules.{LookupRule}
use Rattle.string_ids.proofs.Exactly.{strings_same, bytes_distinct}
use Rattle.ids.proofs.Exactly as I
use Rattle.table_readers.specs.Strings.{find_string}
use Rattle.table_readers.proofs.Exactly.{find_string_exact}
use Rattle.whole_check.specs.File.{File, check_at}
use Rattle.promises.specs.Reads.{Reads}
use Rattle.promises.specs.Promises.{Promises}
use Rattle.promises.proofs.Whole.{file_exact}
use Rattle.promises.proofs.Tables.{tables_agree}
use Rattle.promises.proofs.Methods.{methods_agree}
use Rattle.promises.proofs.Annotations.{annotations_agree}
use Rattle.promises.proofs.Values.{values_agree}
use Rattle.promises.proofs.Statics.{statics_agree}
use Rattle.promises.proofs.Given.{readers_answer}

module _ (f : List ℕ) {r : File} (reads : Reads f r) where
  finds : (text : List ℕ) → Exact (find_string f text) (Sought (λ (t : Text). t.bytes ≡ text) r.strings)
  finds text =
      exact_iff (find_string_exact f text)
      (λ o p. let found = subst (λ (h : Header). LookupRule f h text o) (header_same f p.header r.header p.header_rule reads.header) p.lookup in
      subst (λ (l : List Text). Sought (λ (t : Text). t.bytes ≡ text) l o) (strings_same f r.header found.strings r.strings found.rules reads.strings) found.number)
      (λ o p. record { header = r.header; header_rule = reads.header; lookup = record { strings = r.strings; rules = reads.strings; number = p } })

pub promises : (f : List ℕ) → Promises f
unfolding check_at
promises f =
    record {
      accepted_exactly = accepted_iff (file_exact f);
      readings_equal = λ {r} {other} p q. same (file_exact f) r other p q;
      strings_distinct = λ {r} p m n e. bytes_distinct f r.header p.strings m n e;
      types_distinct = λ {r} p m n. I.types_distinct f (plain_frame r.header) r.header.types.offset p.types m n refl;
      readers_answer = λ p. readers_answer f p;
      readers_agree = λ p. record { tables = tables_agree f p; methods = methods_agree f p; annotations = annotations_agree f p; values = values_agree f p; statics = statics_agree f p };
      lookup_exactly = λ text p. finds f p text;
    }
