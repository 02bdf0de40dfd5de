-- What the proofs of the readers of header and map cite.
-- Assumes nothing.
use Prim.Native.Nat.{ℕ}
use mathlib.Core.Path.{◌≡◌, ap, sym, ◌∙◌}
use mathlib.Core.List.{List, []}
use borrow.Author.Rules.{rules}
use native.Mathlib.Omega.{arith}
use Rattle.refusal.specs.declared.Refusal.{Refusal}
use Rattle.refusal.specs.Outcome.{answer, refused}
use Rattle.refusal.proofs.Laws.{tests, calls}
use Rattle.word.specs.Bytes.{part}
use Rattle.word.proofs.Laws.{part_whole}
use Rattle.header.specs.declared.Header.{Header}
use Rattle.header.specs.Header.{header_at}
use Rattle.header.proofs.Exactly.{header_exact}
use Rattle.table_readers.specs.Head.{signed_by, signature_of}

pub unsigned : (f : List ℕ) {r : Refusal} → refused r ≡ header_at f → [] ≡ signature_of f
unfolding signature_of signed_by
unsigned f e = ap (signed_by f) e

pub signed : (f : List ℕ) {h : Header} {y : List ℕ} → answer h ≡ header_at f → y ≡ part f 12 20 → y ≡ signature_of f
unfolding signature_of signed_by
signed f {h} e q =
    let long = ((header_exact f).sound h (sym e)).long in
    q ∙ part_whole f 12 20 (omega arith) ∙ ap (signed_by f) e

pub ruleset laws = (unsigned, signed, calls, tests, rules)
