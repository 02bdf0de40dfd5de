-- What the proofs of the readers of code cite.
-- Assumes nothing.
use Prim.Native.Nat.{ℕ, zero, suc, ◌+◌, ◌*◌}
use mathlib.Core.Path.{◌≡◌, refl, ap, sym, ◌∙◌}
use mathlib.Core.Bool.{Bool, true, false, cond}
use mathlib.Core.Option.{Option, some}
use mathlib.Core.List.{List}
use lib.ListN.{length}
use lib.Dec.{leb}
use borrow.Author.Rules.{rules}
use borrow.Author.Tests.{le-leb}
use native.Mathlib.Omega.{arith}
use Rattle.refusal.specs.Refusals.{no_room, runs_past}
use Rattle.refusal.specs.declared.Refusal.{Refusal}
use Rattle.refusal.specs.Outcome.{Outcome, answer, refused, ◌>>=◌, given}
use Rattle.refusal.proofs.Laws.{calls, passes, picks}
use Rattle.refusal.proofs.Exact.{never, answers_equal}
use Rattle.word.specs.declared.Endian.{Endian}
use Rattle.frame.specs.declared.Frame.{Frame}
use Rattle.header.specs.declared.Header.{Header}
use Rattle.header.specs.Header.{up_to_end, plain_frame}
use Rattle.handlers.specs.declared.Pair.{Pair}
use Rattle.code_units.specs.Units.{units_at, filled, into_at, left_at}
use Rattle.code_item.specs.declared.Outline.{Outline}
use Rattle.code_bodies.specs.Rules.{CodeRule}
use Rattle.code_heads.specs.Heads.{body_size}
use Rattle.code_bodies.specs.Code.{Code}
use Rattle.code_item.specs.Code.{outline, outline_at, Linked, Handed, try_of, covering_of, handler_of, pair_of}
use Rattle.code_bodies.proofs.Exactly.{code_exact}
use Rattle.class_readers.specs.declared.Spot.{Spot}
use Rattle.code_readers.specs.Code.{code_in, units_under, units_over, units_into, units_written}
use Rattle.class_readers.proofs.SpotLaws.{stays_none, goes_onward}

-- ---- tries and handlers that were read in the file up to the data section's end, s, against the file's counts, r
module _ (f : List ℕ) (h : Header) (p : ℕ) {s : List ℕ} {r : Frame} (e : s ≡ up_to_end f h) (g : r ≡ plain_frame h) where
  pub try_framed : (t : ℕ) {y : Outcome Linked} → y ≡ try_of s r p t → y ≡ try_of (up_to_end f h) (plain_frame h) p t
  try_framed t q = q ∙ (λ i. try_of (e i) (g i) p t)

  pub cover_framed : (address : ℕ) {y : Outcome (Option ℕ)} → y ≡ covering_of s r p address → y ≡ covering_of (up_to_end f h) (plain_frame h) p address
  cover_framed address q = q ∙ (λ i. covering_of (e i) (g i) p address)

  pub handler_framed : (n : ℕ) {y : Outcome Handed} → y ≡ handler_of s r p n → y ≡ handler_of (up_to_end f h) (plain_frame h) p n
  handler_framed n q = q ∙ (λ i. handler_of (e i) (g i) p n)

  pub pair_framed : (n m : ℕ) {y : Outcome Pair} → y ≡ pair_of s r p n m → y ≡ pair_of (up_to_end f h) (plain_frame h) p n m
  pair_framed n m q = q ∙ (λ i. pair_of (e i) (g i) p n m)

-- ---- units that were written from there
module _ (f : List ℕ) (h : Header) (p n : ℕ) {s : List ℕ} (e : s ≡ up_to_end f h) where
  pub units_framed : {y : Outcome ℕ} (room : ℕ) → y ≡ into_at (length s) p n room → y ≡ into_at (length (up_to_end f h)) p n room
  units_framed room q = q ∙ ap (λ (l : List ℕ). into_at (length l) p n room) e

  pub left_framed : {l : List ℕ} (o : Endian) (out : List ℕ) → l ≡ left_at o s p n out → l ≡ left_at o (up_to_end f h) p n out
  left_framed o out q = q ∙ ap (λ (x : List ℕ). left_at o x p n out) e

-- ---- all units of a code item are there, and are as many as its head says
units_long : (o : Endian) (s : List ℕ) (p n : ℕ) → length (units_at o s p n) ≡ n
unfolding units_at
units_long o s p zero = refl
units_long o s p (suc n) = ap suc (units_long o s (p + 2) n)

module _ (s : List ℕ) (r : Frame) (p : ℕ) (c : Code) (rule : CodeRule s r p c) where
  there : leb (p + 16 + 2 * c.head.units) (length s) ≡ true
  unfolding body_size
  there = le-leb (p + 16 + 2 * c.head.units) (length s) (let z = rule.room in omega arith)

  long : c.head.units ≡ length c.units
  long = sym (ap length (sym rule.units) ∙ units_long r.order s (p + 16) c.head.units)

  into_whole : (room : ℕ) → (into_at (length s) (p + 16) c.head.units room >>= λ (n : ℕ). answer (some n)) ≡ given (leb (length c.units) room) no_room (answer (some (length c.units)))
  unfolding into_at given ◌>>=◌
  into_whole room =
      ap (λ (o : Outcome ℕ). o >>= λ (n : ℕ). answer (some n)) (sym (passes (runs_past (p + 16)) there refl))
      ∙ under (leb c.head.units room) c.head.units
      ∙ (λ i. given (leb (long i) room) no_room (answer (some (long i))))
    where
      under : (b : Bool) (n : ℕ) → (given b no_room (answer n) >>= λ (m : ℕ). answer (some m)) ≡ given b no_room (answer (some n))
      under true n = refl
      under false n = refl

  left_whole : (out : List ℕ) → left_at r.order s (p + 16) c.head.units out ≡ cond (leb (length c.units) (length out)) (filled c.units out) out
  unfolding left_at
  left_whole out = sym (picks _ there refl) ∙ (λ i. cond (leb (long i) (length out)) (filled (rule.units i) out) out)

refusals_equal : {A : Type 0} {a b : Refusal} → ◌≡◌ {A = Outcome A} (refused a) (refused b) → a ≡ b
refusals_equal e = cc

-- ---- the units of the code at a place, when its outline was read
module _ (f : List ℕ) (s : Spot) {l : List ℕ} {g : Frame} (e : l ≡ up_to_end f s.header) (t : g ≡ plain_frame s.header) where
  -- what the code's answer was, of the reading of the whole
  outlined : {y : Outcome Outline} → y ≡ outline_at l g s.place → y ≡ (code_in f s >>= λ (a : Code). answer (outline a))
  unfolding code_in outline_at
  outlined q = q ∙ (λ i. outline_at (e i) (t i) s.place)

  pub units_refused : {r : Refusal} (room : ℕ) → refused r ≡ outline_at l g s.place → refused r ≡ units_under f room s
  unfolding units_under ◌>>=◌
  units_refused {r} room q = go (code_in f s) (outlined q)
    where
      go : (o : Outcome Code) → refused r ≡ (o >>= λ (c : Code). answer (outline c)) → refused r ≡ (o >>= λ (c : Code). given (leb (length c.units) room) no_room (answer (some (length c.units))))
      go (answer c) w = absurd (never w)
      go (refused b) w = ap refused (refusals_equal w)

  pub left_refused : {r : Refusal} (out : List ℕ) → refused r ≡ outline_at l g s.place → out ≡ units_over (code_in f s) out
  unfolding units_over ◌>>=◌
  left_refused {r} out q = go (code_in f s) (outlined q)
    where
      go : (o : Outcome Code) → refused r ≡ (o >>= λ (c : Code). answer (outline c)) → out ≡ units_over o out
      go (answer c) w = absurd (never w)
      go (refused b) w = refl

  pub units_got : {o : Outline} {y : Outcome (Option ℕ)} (room : ℕ) → answer o ≡ outline_at l g s.place → y ≡ units_into f s o.head.units room → y ≡ units_under f room s
  unfolding units_under units_into code_in ◌>>=◌
  units_got {o} {y} room q w = w ∙ go (code_in f s) refl (outlined q)
    where
      go : (z : Outcome Code) → code_in f s ≡ z → answer o ≡ (z >>= λ (c : Code). answer (outline c))
          → units_into f s o.head.units room ≡ (z >>= λ (c : Code). given (leb (length c.units) room) no_room (answer (some (length c.units))))
      go (answer c) k v =
          (λ i. units_into f s (answers_equal v i).head.units room)
          ∙ into_whole (up_to_end f s.header) (plain_frame s.header) s.place c ((code_exact (up_to_end f s.header) (plain_frame s.header) s.place).sound c k) room
      go (refused b) k v = absurd (never (sym v))

  pub left_got : {o : Outline} {y : List ℕ} (out : List ℕ) → answer o ≡ outline_at l g s.place → y ≡ units_written f s o.head.units out → y ≡ units_over (code_in f s) out
  unfolding units_over units_written code_in ◌>>=◌
  left_got {o} {y} out q w = w ∙ go (code_in f s) refl (outlined q)
    where
      go : (z : Outcome Code) → code_in f s ≡ z → answer o ≡ (z >>= λ (c : Code). answer (outline c)) → units_written f s o.head.units out ≡ units_over z out
      go (answer c) k v =
          (λ i. units_written f s (answers_equal v i).head.units out)
          ∙ left_whole (up_to_end f s.header) (plain_frame s.header) s.place c ((code_exact (up_to_end f s.header) (plain_frame s.header) s.place).sound c k) out
      go (refused b) k v = absurd (never (sym v))

pub ruleset under_laws = (try_framed, handler_framed, pair_framed, cover_framed, calls, rules)

pub ruleset unit_laws = (units_framed, left_framed, calls, rules)

pub ruleset whole_laws = (units_refused, left_refused, units_got, left_got, calls, rules)

pub ruleset laws = (stays_none, goes_onward, calls, rules)
