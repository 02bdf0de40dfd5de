-- What the proofs of the functions of texts.rt cite: the text of a field's type, by where it lies.
-- Assumes nothing.
use Prim.Native.Nat.{ℕ}
use mathlib.Core.Path.{◌≡◌, refl, ap, sym, ◌∙◌}
use mathlib.Core.Bool.{Bool}
use mathlib.Core.List.{List}
use lib.ListN.{length}
use borrow.Author.Rules.{rules}
use native.Mathlib.Omega.{arith}
use Rattle.refusal.specs.declared.Refusal.{Refusal}
use Rattle.refusal.specs.Outcome.{Outcome, answer, refused, ◌>>=◌}
use Rattle.refusal.proofs.Laws.{calls, tests, handed_on, bind_answer, bind_refused}
use Rattle.refusal.proofs.Exact.{answers_equal, never}
use Rattle.refusal.proofs.Kept.{part_refused}
use Rattle.word.specs.Bytes.{part}
use Rattle.word.proofs.Laws.{part_whole}
use Rattle.header.specs.declared.Header.{Header}
use Rattle.header.specs.Header.{up_to_end}
use Rattle.text.specs.Text.{Text, extent}
use Rattle.string_ids.specs.Strings.{string_of, string_extent}
use Rattle.string_ids.proofs.Exactly.{string_of_exact}
use Rattle.table_readers.proofs.TableLaws.{framed}
use Rattle.decoded_value.specs.Shown.{Shown}
use Rattle.static_kinds.specs.Kinds.{default, fits}
use Rattle.static_fields.specs.Pairing.{default_of, fits_of, type_string, type_text}
use Rattle.static_fields.specs.Stages.{type_extent}

-- where one thing after another has an answer, the first has one
pub bind_parts : {A B : Type 0} (o : Outcome A) (k : A → Outcome B) {b : B} → (o >>= k) ≡ answer b → (a : A) × ((o ≡ answer a) × (k a ≡ answer b))
unfolding ◌>>=◌
bind_parts (answer a) k e = (a, (refl, e))
bind_parts (refused r) k e = absurd (never e)

-- the bytes of a text are those that lie there
lies_there : (f : List ℕ) (h : Header) (t : ℕ) (a : Text) → string_of f h t ≡ answer a → part (up_to_end f h) a.start (length a.bytes) ≡ a.bytes
lies_there f h t a q =
    let stands = ((string_of_exact f h t).sound a q).text.stands in
    let ends = stands.ends in
    let inside = stands.inside in
    part_whole (up_to_end f h) a.start (length a.bytes) (omega arith) ∙ stands.bytes_there

module _ (f : List ℕ) (h : Header) (n : ℕ) where
  text_untold : {r : Refusal} → refused r ≡ type_extent f h n → type_text f h n ≡ refused r
  unfolding type_text type_extent string_extent extent ◌>>=◌
  text_untold {r} e = go (type_string f h n) (sym e)
    where
      go : (o : Outcome ℕ) → (o >>= λ (s : ℕ). string_of f h s >>= extent) ≡ refused r → (o >>= λ (s : ℕ). string_of f h s >>= λ (a : Text). answer a.bytes) ≡ refused r
      go (answer s) q = bind_refused _ (part_refused (λ (a : Text). record { start = a.start; length = length a.bytes; units = length a.units }) (string_of f h s) q)
      go (refused z) q = cc

  pub default_untold : {r : Refusal} → refused r ≡ type_extent f h n → refused r ≡ default_of (type_text f h) n
  unfolding default_of
  default_untold e = sym (bind_refused _ (text_untold e))

  pub fits_untold : (kind : ℕ) {r : Refusal} → refused r ≡ type_extent f h n → refused r ≡ fits_of (type_text f h) n kind
  unfolding fits_of
  fits_untold kind e = sym (bind_refused _ (text_untold e))

  module _ {p m u : ℕ} (e : answer (record { start = p; length = m; units = u }) ≡ type_extent f h n) where
    text_told : type_text f h n ≡ answer (part (up_to_end f h) p m)
    unfolding type_text type_extent string_extent extent
    text_told =
        let a = bind_parts (type_string f h n) (string_extent f h) (sym e) in
        let b = bind_parts (string_of f h a.0) extent a.1.1 in
        let same = answers_equal b.1.1 in
        bind_answer _ a.1.0 ∙ bind_answer _ b.1.0
        ∙ ap answer (sym (lies_there f h a.0 b.0 b.1.0) ∙ (λ i. part (up_to_end f h) (same i).start (same i).length))

    module _ {s y : List ℕ} (section : s ≡ up_to_end f h) (lies : y ≡ part s p m) where
      bytes_are : type_text f h n ≡ answer y
      bytes_are = text_told ∙ ap answer ((λ i. part (sym section i) p m) ∙ sym lies)

      pub default_told : {v : Shown} → v ≡ default y → answer v ≡ default_of (type_text f h) n
      unfolding default_of
      default_told q = ap answer q ∙ sym (bind_answer _ bytes_are)

      pub fits_told : (kind : ℕ) {b : Bool} → b ≡ fits y kind → answer b ≡ fits_of (type_text f h) n kind
      unfolding fits_of
      fits_told kind q = ap answer q ∙ sym (bind_answer _ bytes_are)

pub ruleset record_texts = (framed, calls, tests, rules)

pub ruleset text_laws = (calls, tests, rules)

pub ruleset told_laws = (default_untold, fits_untold, default_told, fits_told, handed_on, rules)
