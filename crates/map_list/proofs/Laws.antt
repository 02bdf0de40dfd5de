-- What the functions' proofs cite: the tests of an entry, the loop of `scan`, and the stages of the list.
-- Assumes nothing.
use Prim.Native.Nat.{ℕ, ◌+◌, ◌-◌, ◌*◌, ◌%◌, ◌≤◌, ◌<◌}
use mathlib.Core.Path.{◌≡◌, refl, ap, sym, subst, ◌∙◌}
use mathlib.Core.Bool.{Bool, true, false}
use mathlib.Core.List.{List}
use lib.ListN.{length, get_or, set, replicate}
use lib.Dec.{ltb, leb}
use borrow.Author.Rules.{rules}
use borrow.Author.Tests.{lt-ltb, le-ltb, le-leb, lt-leb, eq-eqb, ne_eqb}
use native.Mathlib.Omega.{arith}
use Rattle.refusal.specs.Refusals.{wrong_map, wrong_offset}
use Rattle.refusal.specs.declared.Refusal.{Refusal}
use Rattle.refusal.specs.Outcome.{Outcome, answer, refused, ◌>>=◌}
use Rattle.refusal.specs.Rows.{Found, past, collect}
use Rattle.refusal.proofs.Laws.{calls, passes, fails, bind_answer, bind_refused}
use Rattle.refusal.proofs.Loops.{Gather, gather_first, gather_next, gather_stop, gather_done}
use Rattle.word.specs.Words.{u16_at, u32_at}
use Rattle.word.specs.declared.Endian.{Endian}
use Rattle.word.proofs.Laws.{u16_past, u32_past}
use Rattle.header.specs.declared.Header.{Header}
use Rattle.header.specs.declared.Table.{Table}
use Rattle.header.specs.Header.{up_to_end}
use Rattle.frame.specs.Counted.{counted as fits}
use Rattle.frame.proofs.Laws.{counted_is, behind_fits, behind_count}
use Rattle.refusal.proofs.Rows.{bind_assoc}
use Rattle.frame.specs.Offsets.{allowed}
use Rattle.map_list.specs.declared.MapEntry.{MapEntry}
use Rattle.map_list.specs.declared.MapJudge.{MapJudge}
use Rattle.map_list.specs.declared.MapList.{MapList}
use Rattle.map_list.specs.Codes.{map_code_number}
use Rattle.map_list.specs.Map.{entry_at, entry_number, handles_allowed, entry_allowed, next_allowed, handles_of, Scan, judged, step_at, begin, Map, list_of, list_at, judge_of, map_at, kept, scan_at, kept_list_at, kept_at}
use Rattle.map_list.proofs.Exactly.{counted}

-- ---- the tests of an entry
module _ (len size offset : ℕ) where
  pub handles_low : offset < 112 → false ≡ handles_allowed len size offset
  unfolding handles_allowed
  handles_low h = rw (lt-leb 112 offset h)

  pub handles_uneven : 112 ≤ offset → (offset % 4 ≡ 0 → ⊥) → false ≡ handles_allowed len size offset
  unfolding handles_allowed
  handles_uneven p h = rw (le-leb 112 offset p, ne_eqb (offset % 4) 0 h)

  pub handles_room : 112 ≤ offset → offset % 4 ≡ 0 → leb (offset + 8 * size) len ≡ handles_allowed len size offset
  unfolding handles_allowed
  handles_room p h = rw (le-leb 112 offset p, eq-eqb (offset % 4) 0 h)

module _ (version len : ℕ) (e : MapEntry) where
  pub entry_sites : e.kind ≡ 7 → leb 38 version ≡ entry_allowed version len e
  unfolding entry_allowed
  entry_sites h = rw (eq-eqb e.kind 7 h)

  module _ (other : e.kind ≡ 7 → ⊥) where
    pub entry_old : e.kind ≡ 8 → version < 38 → false ≡ entry_allowed version len e
    unfolding entry_allowed
    entry_old h v = rw (ne_eqb e.kind 7 other, eq-eqb e.kind 8 h, lt-leb 38 version v)

    pub entry_handles : {b : Bool} → e.kind ≡ 8 → 38 ≤ version → b ≡ handles_allowed len e.size e.offset → b ≡ entry_allowed version len e
    unfolding entry_allowed
    entry_handles h v p = rw (ne_eqb e.kind 7 other, eq-eqb e.kind 8 h, le-leb 38 version v) p

    pub entry_other : (e.kind ≡ 8 → ⊥) → true ≡ entry_allowed version len e
    unfolding entry_allowed
    entry_other h = rw (ne_eqb e.kind 7 other, ne_eqb e.kind 8 h)

module _ (j : MapJudge) (e : MapEntry) (floor seen : ℕ) where
  pub next_low : e.offset < floor → false ≡ next_allowed j e floor seen
  unfolding next_allowed
  next_low h = rw (lt-leb floor e.offset h)

  pub next_seen : floor ≤ e.offset → (seen ≡ 0 → ⊥) → false ≡ next_allowed j e floor seen
  unfolding next_allowed
  next_seen p h = rw (le-leb floor e.offset p, ne_eqb seen 0 h)

  pub next_by : {b : Bool} → floor ≤ e.offset → seen ≡ 0 → b ≡ entry_allowed j.version j.length e → b ≡ next_allowed j e floor seen
  unfolding next_allowed
  next_by p h q = rw (le-leb floor e.offset p, eq-eqb seen 0 h) q

module _ (e : MapEntry) (before : Table) where
  pub handles_new : e.kind ≡ 8 → record { count = e.size; offset = e.offset } ≡ handles_of e before
  unfolding handles_of
  handles_new h = rw (eq-eqb e.kind 8 h)

  pub handles_kept : (e.kind ≡ 8 → ⊥) → before ≡ handles_of e before
  unfolding handles_of
  handles_kept h = rw (ne_eqb e.kind 8 h)

-- ---- an entry from the values that were read
module _ (o : Endian) (s : List ℕ) (p : ℕ) where
  pub entry_past : length s ≤ p → record { kind = 0; size = 0; offset = 0 } ≡ entry_at o s p
  entry_past h =
      let k = u16_past o s p h in
      let z = u32_past o s (p + 4) (omega arith) in
      let d = u32_past o s (p + 8) (omega arith) in
      λ i. record { kind = k i; size = z i; offset = d i }

  pub entry_by : {k z d : ℕ} → k ≡ u16_at o s p → z ≡ u32_at o s (p + 4) → d ≡ u32_at o s (p + 8) → record { kind = k; size = z; offset = d } ≡ entry_at o s p
  entry_by a b c = λ i. record { kind = a i; size = b i; offset = c i }

pub number_past : (f : List ℕ) (h : Header) (k : ℕ) {s : List ℕ} → s ≡ up_to_end f h → length s ≤ h.map → record { kind = 0; size = 0; offset = 0 } ≡ entry_number f h k
unfolding entry_number
number_past f h k e p = rw (← e) (entry_past h.order _ (h.map + 4 + 12 * k) (omega arith))

pub number_there : (f : List ℕ) (h : Header) (k : ℕ) {s : List ℕ} {r : MapEntry} → s ≡ up_to_end f h → r ≡ entry_at h.order s (h.map + 4 + 12 * k) → r ≡ entry_number f h k
unfolding entry_number
number_there f h k e p = rw (← e) p

-- ---- the loop of `scan` at its head: k entries were judged
pub record Scanning (s : List ℕ) (j : MapJudge) (from count k place floor : ℕ) (seen : List ℕ) (handles : Table) : Type 0 where
  pub gather : Gather (step_at s j) count (begin from) k (record { place = place; floor = floor; seen = seen; handles = handles })
  pub room : place + 12 * (count - k) ≤ length s

pub scanning_first : (s : List ℕ) (j : MapJudge) (from count : ℕ) → from + 12 * count ≤ length s → Scanning s j from count 0 from 0 (replicate 21 0) (record { count = 0; offset = 0 })
scanning_first s j from count h = record { gather = gather_first (step_at s j) count (begin from); room = omega arith }

module _ {s : List ℕ} {j : MapJudge} {from count k place floor : ℕ} {seen : List ℕ} {handles : Table} (h : Scanning s j from count k place floor seen handles) {e : MapEntry} {number : ℕ}
    (l : k < count) (read : e ≡ entry_at j.order s place) (is : number ≡ map_code_number e.kind) where
  abbrev here_at : Scan
  here_at = record { place = place; floor = floor; seen = seen; handles = handles }

  stops : {B : Type 0} {r : Refusal} (k : Found (List MapEntry) Scan → Outcome B) → refused r ≡ judged j here_at e → refused r ≡ (collect count (step_at s j) (begin from) >>= k)
  unfolding step_at
  stops k q = sym (bind_refused k (sym (gather_stop h.gather l (sym (bind_refused past (ap (judged j here_at) (sym read) ∙ sym q))))))

  pub scanning_unknown : {r : Refusal} → 21 ≤ number → r ≡ wrong_map j.at → refused r ≡ scan_at s j from count
  unfolding scan_at judged
  scanning_unknown p made = stops _ (fails _ made (le-ltb (map_code_number e.kind) 21 (let z = is in omega arith)))

  module _ (known : number < 21) {b : Bool} (asked : b ≡ next_allowed j e floor (get_or seen number 0)) where
    there : b ≡ next_allowed j e floor (get_or seen (map_code_number e.kind) 0)
    there = subst (λ (x : ℕ). b ≡ next_allowed j e floor (get_or seen x 0)) is asked

    in_table : ltb (map_code_number e.kind) 21 ≡ true
    in_table = lt-ltb (map_code_number e.kind) 21 (let z = is in omega arith)

    pub scanning_fail : {r : Refusal} → b ≡ false → r ≡ wrong_map j.at → refused r ≡ scan_at s j from count
    unfolding scan_at judged
    scanning_fail q made = stops _ (passes (wrong_map j.at) in_table (fails _ made (sym there ∙ q)))

    pub scanning_next : {hs : Table} → b ≡ true → hs ≡ handles_of e handles
        → Scanning s j from count (k + 1) (place + 12) (e.offset + 1) (set seen number 1) hs
    unfolding step_at judged
    scanning_next {hs} q g =
        let to : Found MapEntry Scan = record { item = e; next = record { place = place + 12; floor = e.offset + 1; seen = set seen number 1; handles = hs } } in
        let good : answer to ≡ judged j here_at e =
        passes (wrong_map j.at) in_table (passes (wrong_map j.at) (sym there ∙ q)
        (λ i. answer (record { item = e; next = record { place = place + 12; floor = e.offset + 1; seen = set seen (is i) 1; handles = g i } }))) in
        record { gather = gather_next h.gather l (sym (bind_answer past (ap (judged j here_at) (sym read) ∙ sym good))); room = let z = h.room in omega arith }

pub scanning_done : {s : List ℕ} {j : MapJudge} {from count k place floor : ℕ} {seen : List ℕ} {handles : Table} → Scanning s j from count k place floor seen handles → count ≤ k → answer handles ≡ scan_at s j from count
unfolding scan_at
scanning_done h l =
    let r = gather_done h.gather l in
    sym (bind_answer _ (sym r.1.0) ∙ ap (λ (u : Scan). answer u.handles) r.1.1)

-- ---- the stages of the list
module _ (s : List ℕ) (j : MapJudge) where
  scanned : kept_list_at s j ≡ (fits s j.order j.at 12 >>= λ (count : ℕ). scan_at s j (j.at + 4) count >>= λ (t : Table). answer (record { count = count; handles = t }))
  unfolding kept_list_at list_at list_of scan_at ◌>>=◌
  scanned =
      ap (λ (o : Outcome Map). o >>= kept) (behind_count s j.order j.at 12 read)
      ∙ bind_assoc (fits s j.order j.at 12) read kept
      ∙ ap (λ (k : ℕ → Outcome MapList). fits s j.order j.at 12 >>= k) (λ i count. go count (collect count (step_at s j) (begin (j.at + 4))) refl i)
    where
      read : ℕ → Outcome Map
      read count = collect count (step_at s j) (begin (j.at + 4)) >>= λ (r : Found (List MapEntry) Scan). answer (record { entries = r.item; handles = r.next.handles })

      go : (count : ℕ) (o : Outcome (Found (List MapEntry) Scan)) → collect count (step_at s j) (begin (j.at + 4)) ≡ o
          → ((o >>= λ (r : Found (List MapEntry) Scan). answer (record { entries = r.item; handles = r.next.handles })) >>= kept)
          ≡ ((o >>= λ (r : Found (List MapEntry) Scan). answer r.next.handles) >>= λ (t : Table). answer (record { count = count; handles = t }))
      go count (answer r) e = λ i. answer (record { count = counted s j count (j.at + 4) r e i; handles = r.next.handles })
      go count (refused r) e = refl

  pub list_uncounted : {r : Refusal} → refused r ≡ fits s j.order j.at 12 → refused r ≡ kept_list_at s j
  list_uncounted e = sym (scanned ∙ bind_refused _ (sym e))

  module _ {count : ℕ} (read : answer count ≡ fits s j.order j.at 12) where
    pub room_there : j.at + 4 + 12 * count ≤ length s
    room_there = (counted_is s j.order j.at 12 read).room

    pub list_got : {t : Table} → answer t ≡ scan_at s j (j.at + 4) count → answer (record { count = count; handles = t }) ≡ kept_list_at s j
    list_got e = sym (scanned ∙ bind_answer _ (sym read) ∙ bind_answer _ (sym e))

    pub list_refused : {r : Refusal} → refused r ≡ scan_at s j (j.at + 4) count → refused r ≡ kept_list_at s j
    list_refused e = sym (scanned ∙ bind_answer _ (sym read) ∙ bind_refused _ (sym e))

pub map_outside : (f : List ℕ) (h : Header) {s : List ℕ} {b : Bool} {r : Refusal} → s ≡ up_to_end f h → b ≡ allowed h.start (length s) true h.map → b ≡ false
    → r ≡ wrong_offset 0 → refused r ≡ kept_at f h
unfolding kept_at map_at
map_outside f h e a t made = sym (bind_refused kept (sym (fails _ made (sym (ap (λ (x : List ℕ). allowed h.start (length x) true h.map) e) ∙ sym a ∙ t))))

pub map_inside : (f : List ℕ) (h : Header) {s : List ℕ} {b : Bool} {y : Outcome MapList} → s ≡ up_to_end f h → b ≡ allowed h.start (length s) true h.map → b ≡ true
    → y ≡ kept_list_at s (judge_of f h) → y ≡ kept_at f h
unfolding kept_at map_at kept_list_at
map_inside f h {s} {b} {y} e a t g =
    g ∙ ap (λ (x : List ℕ). list_at x (judge_of f h) >>= kept) e
    ∙ ap (λ (o : Outcome Map). o >>= kept) (passes (wrong_offset 0) (sym (ap (λ (x : List ℕ). allowed h.start (length x) true h.map) e) ∙ sym a ∙ t) refl)

pub ruleset number_laws = (number_past, number_there, rules)

pub ruleset entry_laws = (handles_low, handles_uneven, handles_room, entry_sites, entry_old, entry_handles, entry_other, next_low, next_seen, next_by, handles_new, handles_kept, entry_past, entry_by, rules)

pub ruleset scan_laws = (scanning_first, scanning_unknown, scanning_fail, scanning_next, scanning_done, rules)

pub ruleset list_laws = (list_uncounted, list_got, list_refused, room_there, behind_fits, map_outside, map_inside, calls, rules)
