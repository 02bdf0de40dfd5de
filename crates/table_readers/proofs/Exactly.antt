-- The public readings find exactly what the rules allow.
-- Assumes nothing.
use Prim.Native.Nat.{ℕ}
use mathlib.Core.Path.{◌≡◌}
use mathlib.Core.Option.{Option}
use mathlib.Core.List.{List}
use Rattle.refusal.specs.Refusals.{not_there}
use Rattle.refusal.specs.Exact.{Exact}
use Rattle.refusal.proofs.Exact.{same, given_exact, bind_exact, exact_iff, below}
use Rattle.header.proofs.Exactly.{header_exact}
use Rattle.string_ids.proofs.Exactly.{string_of_exact, lookup_exact}
use Rattle.table_readers.specs.Strings.{string_number, find_string}
use Rattle.table_readers.specs.Rules.{StringNumber, FindStringRule}

pub string_number_exact : (f : List ℕ) (n : ℕ) → Exact (string_number f n) (StringNumber f n)
unfolding string_number
string_number_exact f n =
    exact_iff (bind_exact _ _ (header_exact f) (λ h. given_exact not_there (below n h.strings.count) (string_of_exact f h n)))
    (λ t p. record { header = p.0; header_rule = p.1.0; below_count = p.1.1.0; string = p.1.1.1 })
    (λ t p. (p.header, (p.header_rule, (p.below_count, p.string))))

pub find_string_exact : (f text : List ℕ) → Exact (find_string f text) (FindStringRule f text)
unfolding find_string
find_string_exact f text =
    exact_iff (bind_exact _ _ (header_exact f) (λ h. lookup_exact f h text))
    (λ o p. record { header = p.0; header_rule = p.1.0; lookup = p.1.1 })
    (λ o p. (p.header, (p.header_rule, p.lookup)))

-- .. and so one answer
pub find_string_same : (f text : List ℕ) (o p : Option ℕ) → FindStringRule f text o → FindStringRule f text p → o ≡ p
find_string_same f text = same (find_string_exact f text)
