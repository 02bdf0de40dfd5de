-- What the proofs of the readers of strings cite.
-- Assumes nothing.
use Prim.Native.Nat.{ℕ, zero, suc, ◌+◌, ◌≤◌}
use mathlib.Core.Path.{◌≡◌, refl, sym, ◌∙◌}
use mathlib.Core.Bool.{Bool, true, false}
use mathlib.Core.List.{List, [], ◌∷◌}
use lib.ListN.{length, take, length-take}
use lib.Dec.{ltb}
use lib.Seq.{get_or-take}
use borrow.Author.Rules.{rules}
use native.Mathlib.Omega.{arith}
use native.Mathlib.Nat.{min-le_left, min-le_right}
use Rattle.refusal.specs.Refusals.{not_there}
use Rattle.refusal.specs.declared.Refusal.{Refusal}
use Rattle.refusal.specs.Outcome.{Outcome, answer, refused, ◌>>=◌, given}
use Rattle.refusal.proofs.Laws.{tests, calls}
use Rattle.refusal.proofs.Exact.{never, answers_equal}
use Rattle.refusal.proofs.Rows.{bind_assoc}
use Rattle.word.specs.Bytes.{stretch, part}
use Rattle.word.proofs.Laws.{part_whole}
use Rattle.header.specs.declared.Header.{Header}
use Rattle.header.specs.Header.{header_at, up_to_end}
use Rattle.text.specs.Text.{Text, Extent, extent}
use Rattle.string_ids.specs.Strings.{string_of, string_extent}
use Rattle.table_readers.specs.Strings.{string_number, bytes_of, string_extent_of, string_in}
use Rattle.table_readers.specs.Rules.{StringNumber}
use Rattle.table_readers.proofs.Exactly.{string_number_exact}

-- the code's order of doing it
pub extent_by : (f : List ℕ) (n : ℕ) {y : Outcome Extent} → y ≡ (header_at f >>= string_in f n) → y ≡ string_extent_of f n
unfolding string_extent_of string_number string_in string_extent given ◌>>=◌
extent_by f n e = e ∙ sym (bind_assoc (header_at f) _ extent ∙ (λ i. header_at f >>= λ (h : Header). under h (ltb n h.strings.count) i))
  where
    under : (h : Header) (b : Bool) → (given b not_there (string_of f h n) >>= extent) ≡ given b not_there (string_of f h n >>= extent)
    under h true = refl
    under h false = refl

-- a part of the file up to the section's end is a part of the file
stretch_take : (f : List ℕ) (e p n : ℕ) → p + n ≤ e → stretch (take e f) p n ≡ stretch f p n
unfolding stretch
stretch_take f e p zero h = refl
stretch_take f e p (suc n) h = λ i. get_or-take e f p 0 (omega arith) i ∷ stretch_take f e (p + 1) n (omega arith) i

-- where the text of string n lies in the file
lies_in : (f : List ℕ) (n : ℕ) {t : Text} → StringNumber f n t → part f t.start (length t.bytes) ≡ t.bytes
unfolding up_to_end
lies_in f n {t} r =
    let stands = r.string.text.stands in
    let ends = stands.ends in
    let inside = stands.inside in
    let size = length-take r.header.end f in
    let short = min-le_left r.header.end (length f) in
    let less = min-le_right r.header.end (length f) in
    part_whole f t.start (length t.bytes) (omega arith) ∙ sym (stretch_take f r.header.end t.start (length t.bytes) (omega arith)) ∙ stands.bytes_there

module _ (f : List ℕ) (n : ℕ) where
  pub bytes_none : {r : Refusal} → refused r ≡ string_extent_of f n → [] ≡ bytes_of (string_number f n)
  unfolding string_extent_of extent bytes_of ◌>>=◌
  bytes_none {r} e = go (string_number f n) e
    where
      go : (o : Outcome Text) → refused r ≡ (o >>= extent) → [] ≡ bytes_of o
      go (answer a) h = absurd (never h)
      go (refused q) h = refl

  pub bytes_some : {p m u : ℕ} {y : List ℕ} → answer (record { start = p; length = m; units = u }) ≡ string_extent_of f n → y ≡ part f p m → y ≡ bytes_of (string_number f n)
  unfolding string_extent_of extent bytes_of ◌>>=◌
  bytes_some {p} {m} {u} {y} e q = go (string_number f n) refl e
    where
      go : (o : Outcome Text) → string_number f n ≡ o → answer (record { start = p; length = m; units = u }) ≡ (o >>= extent) → y ≡ bytes_of o
      go (answer a) k h =
          let same = answers_equal h in
          q ∙ (λ i. part f (same i).start (same i).length) ∙ lies_in f n ((string_number_exact f n).sound a k)
      go (refused r) k h = absurd (never (sym h))

pub ruleset laws = (extent_by, bytes_none, bytes_some, calls, tests, rules)
