-- The string table's readings find exactly what the rules allow; and no two numbers have the same text.
-- Assumes nothing.
use Prim.Native.Nat.{ℕ}
use mathlib.Core.Path.{◌≡◌, sym, subst, ◌∙◌}
use mathlib.Core.Bool.{false}
use mathlib.Core.Option.{Option}
use mathlib.Core.List.{List}
use Rattle.refusal.specs.Refusals.{out_of_order, wrong_offset}
use Rattle.refusal.specs.Exact.{Exact, At, Strict, Sought}
use Rattle.refusal.specs.Seek.{position}
use Rattle.refusal.proofs.Exact.{same, answer_exact, given_exact, bind_exact, exact_iff}
use Rattle.refusal.proofs.Each.{in_turn_exact, rising_apart}
use Rattle.refusal.proofs.Seek.{position_sought, sought_same}
use Rattle.word.specs.Words.{u32_at}
use Rattle.header.specs.declared.Header.{Header}
use Rattle.header.specs.Header.{up_to_end}
use Rattle.frame.specs.Offsets.{Allowed}
use Rattle.frame.proofs.Laws.{allowed_decides}
use Rattle.text.specs.Text.{Text}
use Rattle.text_order.specs.Order.{Before}
use Rattle.text.proofs.Exactly.{string_exact}
use Rattle.text_order.proofs.Ordered.{strict, before_decides}
use Rattle.text_order.proofs.ByUnits.{texts_once, same_bytes}
use Rattle.string_ids.specs.Strings.{string_place, record_of, record_at, string_of, before, strings_at, is, looked_up}
use Rattle.string_ids.specs.Rules.{StringAt, Precedes, StringsRule, LookupRule}

record_exact : (f : List ℕ) (h : Header) (n : ℕ) → Exact (record_at f h n) (λ (p : ℕ). Allowed h.start h.end false (u32_at h.order f (string_place h n)) × (u32_at h.order f (string_place h n) ≡ p))
unfolding record_at record_of
record_exact f h n = given_exact (wrong_offset (string_place h n)) (allowed_decides h.start h.end false (u32_at h.order f (string_place h n))) (answer_exact _)

pub string_of_exact : (f : List ℕ) (h : Header) (n : ℕ) → Exact (string_of f h n) (StringAt f h n)
unfolding string_of
string_of_exact f h n =
    exact_iff (bind_exact _ _ (record_exact f h n) (string_exact (up_to_end f h)))
    (λ t p. record { item = p.0; offset = p.1.0.1; allowed = subst (Allowed h.start h.end false) p.1.0.1 p.1.0.0; text = p.1.1 })
    (λ t p. (p.item, ((subst (Allowed h.start h.end false) (sym p.offset) p.allowed, p.offset), p.text)))

pub string_of_same : (f : List ℕ) (h : Header) (n : ℕ) (a b : Text) → StringAt f h n a → StringAt f h n b → a ≡ b
string_of_same f h n = same (string_of_exact f h n)

pub strings_exact : (f : List ℕ) (h : Header) → Exact (strings_at f h) (StringsRule f h)
unfolding strings_at
strings_exact f h =
    exact_iff (in_turn_exact (StringAt f h) Precedes (string_of f h) before (λ (n : ℕ). out_of_order (string_place h n)) (string_of_exact f h) (λ b a. before_decides b.units a.units) h.strings.count)
    (λ l p. record { each = p.0; order = p.1 })
    (λ l p. (p.each, p.order))

pub strings_same : (f : List ℕ) (h : Header) (a b : List Text) → StringsRule f h a → StringsRule f h b → a ≡ b
strings_same f h = same (strings_exact f h)

-- ---- no two string numbers have the same text
in_order : Strict Precedes
in_order = record { never = strict.never; onward = strict.onward }

module _ (f : List ℕ) (h : Header) {l : List Text} (r : StringsRule f h l) {i k : ℕ} {a b : Text} (m : At l i a) (n : At l k b) where
  pub strings_distinct : a.units ≡ b.units → i ≡ k
  strings_distinct e =
      rising_apart in_order r.order m n
      (λ q. strict.never (subst (λ (x : List ℕ). Before x b.units) e q))
      (λ q. strict.never (subst (λ (x : List ℕ). Before b.units x) e q))

  -- and the bytes are different too
  pub bytes_distinct : a.bytes ≡ b.bytes → i ≡ k
  bytes_distinct e = strings_distinct ((texts_once (r.each.each m).text (r.each.each n).text).0 e)

-- ---- the lookup: a number whose string has those bytes, and none exactly where no string has them
pub lookup_exact : (f : List ℕ) (h : Header) (text : List ℕ) → Exact (looked_up f h text) (LookupRule f h text)
unfolding looked_up
lookup_exact f h text =
    exact_iff (bind_exact _ _ (strings_exact f h) (λ l. answer_exact (position (is text) l)))
    (λ o p. record { strings = p.0; rules = p.1.0; number = subst (Sought _ p.0) p.1.1 (sought p.0) })
    (λ o p. (p.strings, (p.rules, sought_same (λ i k a b m n x y. bytes_distinct f h p.rules m n (x ∙ sym y)) (sought p.strings) p.number)))
  where
    sought : (l : List Text) → Sought (λ (t : Text). t.bytes ≡ text) l (position (is text) l)
    sought l = position_sought (is text) (λ t. same_bytes t.bytes text) l

-- .. and so one answer
pub lookup_same : (f : List ℕ) (h : Header) (text : List ℕ) (o p : Option ℕ) → LookupRule f h text o → LookupRule f h text p → o ≡ p
lookup_same f h text = same (lookup_exact f h text)
