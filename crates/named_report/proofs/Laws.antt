-- What the functions' proofs cite: a text stored in the rest of an output, the line of a name, and the two ways of the writer.
-- Assumes nothing.
use Prim.Native.Nat.{ℕ, ◌+◌, ◌-◌, ◌≤◌, ◌<◌}
use mathlib.Core.Path.{◌≡◌, refl, ap, sym, ◌∙◌}
use mathlib.Core.Bool.{Bool, true, false, cond, not, ◌||◌}
use Rattle.std.specs.List.{list_any}
use mathlib.Core.List.{List, [], ◌∷◌, ◌++◌, append_assoc, append-nil}
use lib.ListN.{length, take, drop, length-append, length-take, length-drop, take-append-drop, drop_of_length-le}
use lib.Seq.{take_all, drop_at, drop-drop}
use lib.Dec.{eqb}
use borrow.Author.Rules.{rules}
use native.Mathlib.Omega.{arith}
use mir.Syntax.{w64}
use mir.Val.{Fits}
use Rattle.refusal.specs.Refusals.{no_room}
use Rattle.refusal.specs.declared.Refusal.{Refusal}
use Rattle.refusal.specs.Outcome.{Outcome, answer, refused}
use Rattle.header.specs.declared.Header.{Header}
use Rattle.report.specs.Lines.{told, report_of}
use Rattle.report.specs.Stored.{placed, Stored, written, content}
use Rattle.report.proofs.Laws.{stored_then, stored_long, short_answer, short_content, got_length, refused_length, written_fits, content_fits}
use Rattle.named_report.specs.Output.{one_line, heading, output_of}

-- ---- a name is one line where no byte of it is a line feed
pub no_feed : (name : List ℕ) → not (list_any (λ (b : ℕ). eqb b 10) name) ≡ one_line name
unfolding one_line
no_feed [] = refl
no_feed (b ∷ bs) = by_feed (eqb b 10) (no_feed bs)
  where
    by_feed : (t : Bool) → not (list_any (λ (c : ℕ). eqb c 10) bs) ≡ one_line bs → not (t || list_any (λ (c : ℕ). eqb c 10) bs) ≡ cond t false (one_line bs)
    by_feed true h = refl
    by_feed false h = h

-- ---- a text stored in the rest of an output, from a place on
-- the rest is lent whole, and nothing comes after it
module _ (out : List ℕ) (at : ℕ) where
  rest_whole : take (length out - at) (drop at out) ≡ drop at out
  rest_whole = take_all (length out - at) (drop at out) (let z = length-drop at out in omega arith)

  rest_back : (last : List ℕ) → take at out ++ (last ++ drop (length out - at) (drop at out)) ≡ take at out ++ last
  rest_back last =
      let after = drop_of_length-le (drop at out) {i = length out - at} (let z = length-drop at out in omega arith) in
      ap (λ (l : List ℕ). take at out ++ (last ++ l)) after ∙ ap (λ (l : List ℕ). take at out ++ l) (append-nil last)

module _ (text out last : List ℕ) (at : ℕ) (e : last ≡ content text (take (length out - at) (drop at out))) where
  last_is : last ≡ content text (drop at out)
  last_is = e ∙ ap (λ (l : List ℕ). content text l) (rest_whole out at)

  rest_placed : at + length text ≤ length out → take at out ++ (last ++ drop (length out - at) (drop at out)) ≡ placed text at out
  unfolding placed
  rest_placed h =
      let fits = content_fits text (drop at out) (let z = length-drop at out in omega arith) in
      rest_back out at last
      ∙ ap (λ (l : List ℕ). take at out ++ l) (last_is ∙ fits ∙ ap (λ (l : List ℕ). text ++ l) (drop-drop (length text) at out))

  rest_kept : at ≤ length out → length out - at < length text → take at out ++ (last ++ drop (length out - at) (drop at out)) ≡ out
  rest_kept h l =
      let short = short_content text (drop at out) (let z = length-drop at out in omega arith) in
      rest_back out at last ∙ ap (λ (l : List ℕ). take at out ++ l) (last_is ∙ sym short) ∙ take-append-drop at out

-- ---- the line of a name
pub heading_long : (name : List ℕ) → 0 < length name → length name + 6 ≡ length (heading name)
unfolding heading told
heading_long [] h = absurd (omega arith)
heading_long (b ∷ bs) h = simp length-append (omega arith)

pub heading_none : (name : List ℕ) → length name ≤ 0 → 0 ≡ length (heading name)
unfolding heading
heading_none [] h = refl
heading_none (b ∷ bs) h = absurd (omega arith)

-- file= has five bytes
module _ (name out : List ℕ) (some : 0 < length name) (room : length (heading name) ≤ length out) where
  pub sign_room : 0 + 5 ≤ length out
  sign_room = let z = heading_long name some in omega arith

  module _ {out₁ : List ℕ} {p : ℕ} (s : Stored (102 ∷ 105 ∷ 108 ∷ 101 ∷ 61 ∷ []) 0 out out₁ p) where
    pub name_room : p + length name ≤ length out₁
    name_room = let z = heading_long name some in let y = s.ends in let x = stored_long s in omega arith

    module _ {out₂ : List ℕ} {q : ℕ} (t : Stored name p out₁ out₂ q) where
      pub feed_room : q + 1 ≤ length out₂
      feed_room =
          let z = heading_long name some in
          let y = s.ends in
          let x = stored_long s in
          let w = t.ends in
          let v = stored_long t in
          omega arith

pub heading_stored : {out out₁ out₂ out₃ : List ℕ} {p q r : ℕ} (name : List ℕ) → 0 < length name → Stored (102 ∷ 105 ∷ 108 ∷ 101 ∷ 61 ∷ []) 0 out out₁ p → Stored name p out₁ out₂ q → Stored (10 ∷ []) q out₂ out₃ r → Stored (heading name) 0 out out₃ r
unfolding heading told
heading_stored [] h s t u = absurd (omega arith)
heading_stored (b ∷ bs) h s t u = stored_then s (stored_then t u)

pub heading_nothing : (name out : List ℕ) → length name ≤ 0 → Stored (heading name) 0 out out 0
unfolding heading placed
heading_nothing [] out h = record { room = omega arith; content = refl; ends = refl }
heading_nothing (b ∷ bs) out h = absurd (omega arith)

pub ruleset heading_laws = (heading_long, heading_none, sign_room, name_room, feed_room, heading_stored, heading_nothing, rules)

-- ---- the writer's ways
module _ (name out : List ℕ) (o : Outcome Header) (at : ℕ) (long : at ≡ length (heading name)) where
  output_long : length (output_of name o) ≡ at + length (report_of o)
  unfolding output_of
  output_long = length-append (heading name) (report_of o) ∙ ap (λ (k : ℕ). k + length (report_of o)) (sym long)

  -- no room for the name
  pub no_room_answer : {r : Refusal} → length out < at → r ≡ no_room → refused r ≡ written (output_of name o) (length out)
  no_room_answer l made = short_answer (output_of name o) out (let z = output_long in omega arith) made

  pub no_room_content : length out < at → out ≡ content (output_of name o) out
  no_room_content l = short_content (output_of name o) out (let z = output_long in omega arith)

  -- the part that the report was to go into
  module _ (h : at ≤ length out) where
    part_long : length (take (length out - at) (drop at out)) ≡ length out - at
    part_long = ap length (rest_whole out at) ∙ length-drop at out

    module _ {r : Refusal} (e : refused r ≡ written (report_of o) (length (take (length out - at) (drop at out)))) where
      short : length (take (length out - at) (drop at out)) < length (report_of o)
      short = refused_length (report_of o) _ r e

      pub short_output_answer : refused r ≡ written (output_of name o) (length out)
      short_output_answer =
          e
          ∙ sym (short_answer (report_of o) (take (length out - at) (drop at out)) short refl)
          ∙ short_answer (output_of name o) out (let z = output_long in let y = part_long in let w = short in omega arith) refl

      pub short_output_content : (last : List ℕ) → last ≡ content (report_of o) (take (length out - at) (drop at out)) → take at out ++ (last ++ drop (length out - at) (drop at out)) ≡ content (output_of name o) out
      short_output_content last w =
          rest_kept (report_of o) out last at w h (let y = part_long in let v = short in omega arith)
          ∙ short_content (output_of name o) out (let z = output_long in let y = part_long in let v = short in omega arith)

    module _ {k : ℕ} (e : answer k ≡ written (report_of o) (length (take (length out - at) (drop at out)))) where
      got : (k ≡ length (report_of o)) × (length (report_of o) ≤ length (take (length out - at) (drop at out)))
      got = got_length (report_of o) _ k e

      sum_within : at + k ≤ length out
      sum_within = let z = got.0 in let y = got.1 in let w = part_long in omega arith

      pub sum_fits : Fits w64 (length out) → Fits w64 (at + k)
      sum_fits f = record { fits = let z = sum_within in let y = f.fits in omega arith }

      pub whole_output_answer : answer (at + k) ≡ written (output_of name o) (length out)
      whole_output_answer =
          let same : at + k ≡ length (output_of name o) = let z = got.0 in let y = output_long in omega arith in
          ap answer same ∙ written_fits (output_of name o) (length out) (let z = sum_within in omega arith)

      pub whole_output_content : (last : List ℕ) → last ≡ content (report_of o) (take (length out - at) (drop at out)) → {after : List ℕ} {n : ℕ} → Stored (heading name) 0 (take at out ++ (last ++ drop (length out - at) (drop at out))) after n → after ≡ content (output_of name o) out
      unfolding placed output_of
      whole_output_content last w s =
          let room : at + length (report_of o) ≤ length out = let z = got.0 in let y = sum_within in omega arith in
          let report = rest_placed (report_of o) out last at w room in
          let front : length (take at out) ≡ 0 + length (heading name) = let z = long in simp length-take (omega arith) in
          let all : length (heading name ++ report_of o) ≤ length out = let z = output_long in omega arith in
          let far : at + length (report_of o) ≡ length (heading name ++ report_of o) = sym output_long in
          s.content
          ∙ ap (λ (l : List ℕ). heading name ++ drop (0 + length (heading name)) l) report
          ∙ ap (λ (l : List ℕ). heading name ++ l) (drop_at (take at out) (report_of o ++ drop (at + length (report_of o)) out) (0 + length (heading name)) front)
          ∙ ap (λ (n : ℕ). heading name ++ (report_of o ++ drop n out)) far
          ∙ sym (append_assoc (heading name) (report_of o) (drop (length (heading name ++ report_of o)) out))
          ∙ sym (content_fits (heading name ++ report_of o) out all)

pub ruleset output_laws = (no_room_answer, no_room_content, short_output_answer, short_output_content, sum_fits, whole_output_answer, whole_output_content, rules)
