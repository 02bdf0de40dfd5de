-- What the proofs of the readers of debug information cite.
-- Assumes nothing.
use Prim.Native.Nat.{ℕ, zero, suc, ◌+◌, ◌≤◌}
use mathlib.Core.Path.{◌≡◌, refl, ap, sym, ◌∙◌}
use mathlib.Core.Option.{Option, none, some}
use mathlib.Core.List.{List, [], ◌∷◌}
use lib.ListN.{length, take, length-take}
use lib.Seq.{get_or-take}
use borrow.Author.Rules.{rules}
use native.Mathlib.Omega.{arith}
use native.Mathlib.Nat.{min-le_left, min-le_right}
use Rattle.std.specs.Prelude.{Ok, Some}
use Rattle.std.specs.Prelude as S
use Rattle.refusal.specs.declared.Refusal.{Refusal}
use Rattle.refusal.specs.Outcome.{Outcome, answer, refused, ◌>>=◌}
use Rattle.refusal.proofs.Laws.{calls}
use Rattle.word.specs.Bytes.{stretch, part}
use Rattle.word.proofs.Laws.{part_whole}
use Rattle.header.specs.declared.Header.{Header}
use Rattle.header.specs.Header.{up_to_end}
use Rattle.debug_info.specs.Debug.{Debug, debug_at, Extent, extent_at, name_of}
use Rattle.debug_info.proofs.Exactly.{debug_exact}
use Rattle.class_readers.specs.declared.Spot.{Spot}
use Rattle.class_readers.specs.Spots.{onward, debug_spot}
use Rattle.debug_info.specs.declared.DebugOutline.{DebugOutline}
use Rattle.debug_readers.specs.Answers.{maybe_debug}
use Rattle.debug_readers.specs.Debug.{whole_under, debug_whole, extent_under, method_debug, program_of, line_program}

-- ---- debug information that was read in the file up to the data section's end, s
module _ (f : List ℕ) (h : Header) (n p : ℕ) {s : List ℕ} (e : s ≡ up_to_end f h) where
  pub debug_framed : {y : Outcome Extent} → y ≡ extent_at s n p → y ≡ extent_at (up_to_end f h) n p
  debug_framed q = q ∙ ap (λ (l : List ℕ). extent_at l n p) e

  pub name_framed : (m : ℕ) {y : Outcome (Option ℕ)} → y ≡ name_of s n p m → y ≡ name_of (up_to_end f h) n p m
  name_framed m q = q ∙ ap (λ (l : List ℕ). name_of l n p m) e

-- ---- the line program
-- a part of the file up to the section's end is a part of the file
stretch_take : (f : List ℕ) (e p n : ℕ) → p + n ≤ e → stretch (take e f) p n ≡ stretch f p n
unfolding stretch
stretch_take f e p zero h = refl
stretch_take f e p (suc n) h = λ i. get_or-take e f p 0 (omega arith) i ∷ stretch_take f e (p + 1) n (omega arith) i

lies_in : (f : List ℕ) (s : Spot) (d : Debug) → debug_at (up_to_end f s.header) s.header.strings.count s.place ≡ answer d → part f d.start (length d.program) ≡ d.program
unfolding up_to_end
lies_in f s d e =
    let end = s.header.end in
    let stands = ((debug_exact (up_to_end f s.header) s.header.strings.count s.place).sound d e).program.stands in
    let ends = stands.ends in
    let inside = stands.inside in
    let size = length-take end f in
    let short = min-le_left end (length f) in
    let less = min-le_right end (length f) in
    part_whole f d.start (length d.program) (omega arith) ∙ sym (stretch_take f end d.start (length d.program) (omega arith)) ∙ stands.bytes_there

-- where there is debug information, its program lies in the file
abbrev Lying : List ℕ → Outcome (Option Debug) → Type 0
Lying f (answer none) = Unit
Lying f (answer (some d)) = part f d.start (length d.program) ≡ d.program
Lying f (refused r) = Unit

abbrev handed : Debug → Outcome (Option Extent)
handed d = answer (some (record { line = d.line; names = length d.names; start = d.start; length = length d.program }))

module _ (f : List ℕ) (c list k : ℕ) where
  whole_lies : Lying f (debug_whole f c list k)
  unfolding debug_whole whole_under onward ◌>>=◌
  whole_lies = go (debug_spot f c list k)
    where
      under : (s : Spot) (o : Outcome Debug) → debug_at (up_to_end f s.header) s.header.strings.count s.place ≡ o → Lying f (o >>= λ (d : Debug). answer (some d))
      under s (answer d) e = lies_in f s d e
      under s (refused r) e = tt

      go : (o : Outcome (Option Spot)) → Lying f (o >>= onward (whole_under f))
      go (answer none) = tt
      go (answer (some s)) = under s (debug_at (up_to_end f s.header) s.header.strings.count s.place) refl
      go (refused r) = tt

  -- what is handed out is of the whole
  of_whole : method_debug f c list k ≡ (debug_whole f c list k >>= onward handed)
  unfolding method_debug extent_under extent_at debug_whole whole_under onward ◌>>=◌
  of_whole = go (debug_spot f c list k)
    where
      under : (o : Outcome Debug) → ((o >>= λ (d : Debug). answer (record { line = d.line; names = length d.names; start = d.start; length = length d.program })) >>= λ (e : Extent). answer (some e))
          ≡ ((o >>= λ (d : Debug). answer (some d)) >>= onward handed)
      under (answer d) = refl
      under (refused r) = refl

      go : (o : Outcome (Option Spot)) → (o >>= onward (extent_under f)) ≡ ((o >>= onward (whole_under f)) >>= onward handed)
      go (answer none) = refl
      go (answer (some s)) = under (debug_at (up_to_end f s.header) s.header.strings.count s.place)
      go (refused r) = refl

  -- which of the three an outcome is, and what it hands out
  abbrev kind : Outcome (Option Extent) → ℕ
  kind (answer none) = 0
  kind (answer (some e)) = 1
  kind (refused r) = 2

  abbrev shown : Outcome (Option Extent) → Extent
  shown (answer none) = record { line = 0; names = 0; start = 0; length = 0 }
  shown (answer (some e)) = e
  shown (refused r) = record { line = 0; names = 0; start = 0; length = 0 }

  pub program_refused : {r : Refusal} → refused r ≡ method_debug f c list k → [] ≡ line_program f c list k
  unfolding line_program program_of onward ◌>>=◌
  program_refused {r} e = go (debug_whole f c list k) (e ∙ of_whole)
    where
      go : (o : Outcome (Option Debug)) → refused r ≡ (o >>= onward handed) → [] ≡ program_of o
      go (answer none) w = refl
      go (answer (some d)) w = absurd (let z : 2 ≡ 1 = ap kind w in omega arith)
      go (refused q) w = refl

  pub program_absent : answer none ≡ method_debug f c list k → [] ≡ line_program f c list k
  unfolding line_program program_of onward ◌>>=◌
  program_absent e = go (debug_whole f c list k) (e ∙ of_whole)
    where
      go : (o : Outcome (Option Debug)) → answer none ≡ (o >>= onward handed) → [] ≡ program_of o
      go (answer none) w = refl
      go (answer (some d)) w = absurd (let z : 0 ≡ 1 = ap kind w in omega arith)
      go (refused q) w = refl

  pub program_some : {x : S.Option DebugOutline} {d : DebugOutline} {y : List ℕ} → maybe_debug (Ok x) ≡ method_debug f c list k → x ≡ Some d → y ≡ part f d.start d.length → y ≡ line_program f c list k
  unfolding line_program program_of onward ◌>>=◌
  program_some {x} {d} {y} e t q = go (debug_whole f c list k) whole_lies (sym (ap (λ (z : S.Option DebugOutline). maybe_debug (Ok z)) t) ∙ e ∙ of_whole)
    where
      go : (o : Outcome (Option Debug)) → Lying f o → maybe_debug (Ok (Some d)) ≡ (o >>= onward handed) → y ≡ program_of o
      go (answer none) lies w = absurd (let z : 1 ≡ 0 = ap kind w in omega arith)
      go (answer (some m)) lies w = q ∙ (λ i. part f (shown (w i)).start (shown (w i)).length) ∙ lies
      go (refused r) lies w = absurd (let z : 1 ≡ 2 = ap kind w in omega arith)

pub ruleset under_laws = (debug_framed, name_framed, calls, rules)

pub ruleset laws = (program_refused, program_absent, program_some, rules)
