-- The reading of debug information finds exactly what the rule allows.
-- Assumes nothing.
use Prim.Native.Nat.{ℕ, ◌+◌, ◌-◌, ◌<◌}
use mathlib.Core.Path.{◌≡◌, refl, ap, sym, subst, ◌∙◌}
use mathlib.Core.Logic.{◌⊎◌, inl, inr}
use mathlib.Core.Option.{Option, none, some}
use mathlib.Core.List.{List, [], ◌∷◌}
use lib.ListN.{length, get_or}
use native.Mathlib.Omega.{arith}
use Rattle.refusal.specs.Refusals.{runs_past, wrong_index}
use Rattle.refusal.specs.Rows.{Found, Next, more, ends}
use Rattle.refusal.specs.Exact.{Exact, Decides, Ended, over, longer, At, here, there}
use Rattle.refusal.proofs.Exact.{same, answer_exact, given_exact, bind_exact, either_exact, exact_iff, below, decided_yes}
use Rattle.refusal.proofs.Each.{at_below}
use Rattle.refusal.proofs.Rows.{Stepped, collect_exact, until_exact}
use Rattle.word.specs.Bytes.{stretch, Stands}
use Rattle.word.proofs.Stands.{stands_more, stands_first}
use Rattle.leb128.proofs.Exactly.{uleb_exact, plus_one_exact}
use Rattle.debug_info.specs.Debug.{named, name_at, opcode_at, program_at, Debug, debug_at}
use Rattle.debug_info.specs.Rules.{Named, NameRule, ProgramRule, DebugRule}

-- ---- names
named_decides : (strings : ℕ) (o : Option ℕ) → Decides (named strings o) (Named strings o)
unfolding named
named_decides strings none = decided_yes tt
named_decides strings (some v) = below v strings

pub name_exact : (s : List ℕ) (strings item p : ℕ) → Exact (name_at s strings item p) (λ (r : Found (Option ℕ) ℕ). NameRule s strings p r.item r.next)
unfolding name_at
name_exact s strings item p =
    exact_iff (bind_exact _ _ (plus_one_exact s item p) (λ n. given_exact (wrong_index item) (named_decides strings n.item) (answer_exact n)))
    (λ r h. subst (λ (x : Found (Option ℕ) ℕ). NameRule s strings p x.item x.next) h.1.1.1 (record { number = h.1.0; below = h.1.1.0 }))
    (λ r h. (r, (h.number, (h.below, refl))))

-- ---- the line program
-- a byte of it that stands at p, and its end
record Step (s : List ℕ) (p b q : ℕ) : Type 0 where
  room : p < length s
  byte : get_or s p 0 ≡ b
  nonzero : 0 < b
  goes : p + 1 ≡ q

record End (s : List ℕ) (p q : ℕ) : Type 0 where
  room : p < length s
  closed : get_or s p 0 ≡ 0
  stays : p ≡ q

opcode_exact : (s : List ℕ) (item p : ℕ) → Exact (opcode_at s item p) (Stepped (opcode_at s item) (Step s) (End s) p)
unfolding opcode_at
opcode_exact s item p =
    exact_iff (given_exact (runs_past item) (below p (length s)) (either_exact (below 0 (get_or s p 0)) (answer_exact (more (get_or s p 0) (p + 1))) (answer_exact (ends p))))
    (λ r h. found r h.0 h.1)
    parted
  where
    Ways : Next ℕ ℕ → Type 0
    Ways r = ((0 < get_or s p 0) × (more (get_or s p 0) (p + 1) ≡ r)) ⊎ ((0 < get_or s p 0 → ⊥) × (ends p ≡ r))

    found : (r : Next ℕ ℕ) → p < length s → Ways r → Stepped (opcode_at s item) (Step s) (End s) p r
    found r h (inl w) = subst (Stepped (opcode_at s item) (Step s) (End s) p) w.1 (record { room = h; byte = refl; nonzero = w.0; goes = refl })
    found r h (inr w) = let z : get_or s p 0 ≡ 0 = let n = w.0 in omega arith in subst (Stepped (opcode_at s item) (Step s) (End s) p) w.1 (record { room = h; closed = z; stays = refl })

    parted : (r : Next ℕ ℕ) → Stepped (opcode_at s item) (Step s) (End s) p r → (p < length s) × Ways r
    parted (more b q) h = let e = h.byte in let n = h.nonzero in (h.room, inl (omega arith, λ i. more (h.byte i) (h.goes i)))
    parted (ends q) h = let e = h.closed in (h.room, inr (λ n. omega arith, ap ends h.stays))

-- bytes of which none is 0, taken apart and put together
abbrev Nonzero : List ℕ → Type 0
Nonzero l = (k b : ℕ) → At l k b → 0 < b

nonzero_none : Nonzero []
nonzero_none k b m = absurd (let z = at_below m in omega arith)

nonzero_cons : {a : ℕ} {l : List ℕ} → 0 < a → Nonzero l → Nonzero (a ∷ l)
nonzero_cons h g k b here = h
nonzero_cons h g k b (there m) = g _ b m

module _ (s : List ℕ) where
  program_sound : {p z : ℕ} {l : List ℕ} → Ended (Step s) (End s) p l z → ProgramRule s p l z
  unfolding stretch
  program_sound {p} {z} (over e) =
      let h = e.stays in
      let r = e.room in
      record { stands = record { bytes_there = refl; ends = omega arith; inside = omega arith }; nonzero = λ m. nonzero_none _ _ m; room = omega arith; closed = ap (λ (q : ℕ). get_or s q 0) (sym h) ∙ e.closed }
  program_sound {p} {z} (longer {a = b} {l = l} h k) =
      let rest = program_sound k in
      record {
        stands = subst (λ (x : ℕ). Stands s p (x ∷ l) z) h.byte (stands_more s p (subst (λ (q : ℕ). Stands s q l z) (sym h.goes) rest.stands));
        nonzero = λ m. nonzero_cons h.nonzero (λ k b n. rest.nonzero n) _ _ m;
        room = rest.room;
        closed = rest.closed;
      }

  program_complete : (l : List ℕ) (p z : ℕ) → ProgramRule s p l z → Ended (Step s) (End s) p l z
  program_complete [] p z h =
      let e : p ≡ z = let n = h.stands.ends in omega arith in
      let r = h.room in
      let room : p < length s = omega arith in
      over (record { room = room; closed = ap (λ (q : ℕ). get_or s q 0) e ∙ h.closed; stays = e })
  program_complete (b ∷ l) p z h =
      let f = stands_first s p h.stands in
      longer (record { room = f.room; byte = f.byte; nonzero = h.nonzero here; goes = refl })
      (program_complete l (p + 1) z (record { stands = f.rest; nonzero = λ m. h.nonzero (there m); room = h.room; closed = h.closed }))

pub program_exact : (s : List ℕ) (item p : ℕ) → Exact (program_at s item p) (λ (r : Found (List ℕ) ℕ). ProgramRule s p r.item r.next)
unfolding program_at
program_exact s item p =
    exact_iff (until_exact (opcode_at s item) (Step s) (End s) (opcode_exact s item) (runs_past item) (length s - p) p)
    (λ r h. program_sound s h.0)
    (λ r h. (program_complete s r.item p r.next h, let e = h.stands.ends in let room = h.room in omega arith))

-- ---- the whole
pub debug_exact : (s : List ℕ) (strings item : ℕ) → Exact (debug_at s strings item) (DebugRule s strings item)
unfolding debug_at
debug_exact s strings item =
    exact_iff
    (bind_exact _ _ (uleb_exact s item item) (λ l. bind_exact _ _ (uleb_exact s item l.next) (λ n.
    bind_exact _ _ (collect_exact (name_at s strings item) (NameRule s strings) (name_exact s strings item) n.item n.next) (λ ns.
    bind_exact _ _ (program_exact s item ns.next) (λ z. answer_exact _)))))
    (λ d h. subst (DebugRule s strings item) h.1.1.1.1.1.1.1.1
    (record { count = h.1.1.0.item; after_line = h.0.next; after_count = h.1.1.0.next; zero = h.1.1.1.1.1.1.0.next; line = h.1.0; size = h.1.1.1.0; names = h.1.1.1.1.1.0; program = h.1.1.1.1.1.1.1.0 }))
    (λ d h. (
      record { item = d.line; next = h.after_line },
      (
        h.line,
        (
          record { item = h.count; next = h.after_count },
          (
            h.size,
            (record { item = d.names; next = d.start }, (h.names, (record { item = d.program; next = h.zero }, (h.program, refl)))),
          ),
        ),
      ),
    ))

-- two readings of one place are equal
pub debug_same : (s : List ℕ) (strings item : ℕ) (d e : Debug) → DebugRule s strings item d → DebugRule s strings item e → d ≡ e
debug_same s strings item = same (debug_exact s strings item)
