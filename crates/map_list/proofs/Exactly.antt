-- The map's readings find exactly what the rules allow: offsets rise, each type stands once, and the handles are type 8's.
-- Assumes nothing.
use Prim.Native.Nat.{ℕ, zero, suc, ◌+◌, ◌*◌, ◌%◌, ◌≤◌, ◌<◌}
use mathlib.Core.Path.{◌≡◌, refl, ap, sym, subst, ◌∙◌}
use mathlib.Core.Bool.{Bool, true, false, cond, ◌&&◌, false≢true}
use mathlib.Core.List.{List, [], ◌∷◌}
use lib.ListN.{length, get_or, set, length-set, get_or-replicate}
use lib.Seq.{get_or-set_same, get_or-set_other}
use lib.Dec.{eqb, leb}
use native.Mathlib.Omega.{arith}
use Rattle.refusal.specs.Refusals.{runs_past, wrong_map, wrong_offset}
use Rattle.refusal.specs.Outcome.{answer}
use Rattle.refusal.specs.Rows.{Found, collect}
use Rattle.refusal.specs.Exact.{Exact, Decides, Row, empty, first, At, here, there, Rising, Strict}
use Rattle.refusal.proofs.Exact.{same, answer_exact, given_exact, bind_exact, exact_iff, below, at_most, equal, both, decided_yes}
use Rattle.refusal.proofs.Rows.{collect_exact}
use Rattle.refusal.proofs.Each.{at_below, at_same, rising_one, rising_cons, rising_tail, rising_far}
use Rattle.word.specs.Words.{u32_at}
use Rattle.header.specs.declared.Header.{Header}
use Rattle.header.specs.declared.Table.{Table}
use Rattle.header.specs.Header.{up_to_end}
use Rattle.frame.proofs.Laws.{allowed_decides}
use Rattle.map_list.specs.declared.MapEntry.{MapEntry}
use Rattle.map_list.specs.declared.MapJudge.{MapJudge}
use Rattle.map_list.specs.Codes.{codes, map_code_number}
use Rattle.map_list.specs.Map.{entry_at, handles_allowed, entry_allowed, next_allowed, handles_of, Scan, after_entry, judged, step_at, begin, Map, list_of, list_at, judge_of, map_at}
use Rattle.map_list.specs.Rules.{HandlesRule, MapEntryAt, Lower, HandlesIn, named, unnamed, MapEntriesRule, MapRule}
use Rattle.map_list.proofs.Codes.{code_there, code_found}

-- ---- an entry by itself
handles_decides : (len size offset : ℕ) → Decides (handles_allowed len size offset) (HandlesRule len size offset)
unfolding handles_allowed
handles_decides len size offset =
    let d = both (at_most 112 offset) (both (equal (offset % 4) 0) (at_most (offset + 8 * size) len)) in
    record {
      sound = λ t. let h = d.sound t in record { after_header = h.0; multiple = h.1.0; inside = h.1.1 };
      complete = λ h. d.complete (h.after_header, (h.multiple, h.inside));
    }

-- the rules of types 7 and 8
record Own (version len : ℕ) (e : MapEntry) : Type 0 where
  call_sites : e.kind ≡ 7 → 38 ≤ version
  handles_version : e.kind ≡ 8 → 38 ≤ version
  handles_place : e.kind ≡ 8 → HandlesRule len e.size e.offset

own_decides : (version len : ℕ) (e : MapEntry) → Decides (entry_allowed version len e) (Own version len e)
unfolding entry_allowed
own_decides version len e = seven (eqb e.kind 7) refl
  where
    leb_and_place : Bool
    leb_and_place = leb 38 version && handles_allowed len e.size e.offset

    differs : (n : ℕ) → eqb e.kind n ≡ false → e.kind ≡ n → ⊥
    differs n t k = false≢true (sym t ∙ (equal e.kind n).complete k)

    eight : (b : Bool) → eqb e.kind 8 ≡ b → eqb e.kind 7 ≡ false → Decides (cond b leb_and_place true) (Own version len e)
    eight true t u =
        let k = (equal e.kind 8).sound t in
        let d = both (at_most 38 version) (handles_decides len e.size e.offset) in
        record {
          sound = λ x. let h = d.sound x in record { call_sites = λ q. absurd (differs 7 u q); handles_version = λ q. h.0; handles_place = λ q. h.1 };
          complete = λ h. d.complete (h.handles_version k, h.handles_place k);
        }
    eight false t u = decided_yes (record { call_sites = λ q. absurd (differs 7 u q); handles_version = λ q. absurd (differs 8 t q); handles_place = λ q. absurd (differs 8 t q) })

    seven : (b : Bool) → eqb e.kind 7 ≡ b → Decides (cond b (leb 38 version) (cond (eqb e.kind 8) leb_and_place true)) (Own version len e)
    seven true t =
        let k = (equal e.kind 7).sound t in
        let d = at_most 38 version in
        record {
          sound = λ x. record { call_sites = λ q. d.sound x; handles_version = λ q. absurd (omega arith); handles_place = λ q. absurd (omega arith) };
          complete = λ h. d.complete (h.call_sites k);
        }
    seven false t = eight (eqb e.kind 8) refl t

-- ---- a step, as a relation
record Judged (s : List ℕ) (j : MapJudge) (t : Scan) (e : MapEntry) (u : Scan) : Type 0 where
  stands : entry_at j.order s t.place ≡ e
  known : map_code_number e.kind < 21
  high : t.floor ≤ e.offset
  fresh : get_or t.seen (map_code_number e.kind) 0 ≡ 0
  own : Own j.version j.length e
  next : after_entry t e ≡ u

step_exact : (s : List ℕ) (j : MapJudge) (t : Scan) → Exact (step_at s j t) (λ (r : Found MapEntry Scan). Judged s j t r.item r.next)
unfolding step_at judged next_allowed
step_exact s j t =
    let e = entry_at j.order s t.place in
    exact_iff
    (given_exact (wrong_map j.at) (below (map_code_number e.kind) 21)
    (given_exact (wrong_map j.at) (both (at_most t.floor e.offset) (both (equal (get_or t.seen (map_code_number e.kind) 0) 0) (own_decides j.version j.length e)))
    (answer_exact (record { item = e; next = after_entry t e }))))
    (λ r h. subst (λ (x : Found MapEntry Scan). Judged s j t x.item x.next) h.1.1 (record { stands = refl; known = h.0; high = h.1.0.0; fresh = h.1.0.1.0; own = h.1.0.1.1; next = refl }))
    (λ r h. back r.item r.next h)
  where
    Facts : MapEntry → Scan → Type 0
    Facts x u =
        let e = entry_at j.order s t.place in
        (map_code_number e.kind < 21)
        × (((t.floor ≤ e.offset) × ((get_or t.seen (map_code_number e.kind) 0 ≡ 0) × Own j.version j.length e)) × (◌≡◌ {A = Found MapEntry Scan} (record { item = e; next = after_entry t e }) (record { item = x; next = u })))

    back : (x : MapEntry) (u : Scan) → Judged s j t x u → Facts x u
    back x u h =
        let e = h.stands in
        let f : (y : MapEntry) → y ≡ x → (map_code_number y.kind < 21) × (((t.floor ≤ y.offset) × ((get_or t.seen (map_code_number y.kind) 0 ≡ 0) × Own j.version j.length y)) × (◌≡◌ {A = Found MapEntry Scan} (record { item = y; next = after_entry t y }) (record { item = x; next = u })))
        = λ y p. subst (λ (z : MapEntry). (map_code_number z.kind < 21) × (((t.floor ≤ z.offset) × ((get_or t.seen (map_code_number z.kind) 0 ≡ 0) × Own j.version j.length z)) × (◌≡◌ {A = Found MapEntry Scan} (record { item = z; next = after_entry t z }) (record { item = x; next = u })))) (sym p)
        (h.known, ((h.high, (h.fresh, h.own)), λ i. record { item = x; next = h.next i })) in
        f (entry_at j.order s t.place) e

-- ---- a row of entries, by number
-- what the rules say of entries that are still to come
record Fit (s : List ℕ) (j : MapJudge) (t : Scan) (l : List MapEntry) : Type 0 where
  each : {k : ℕ} {e : MapEntry} → At l k e → MapEntryAt s j (t.place + 12 * k) e
  high : {k : ℕ} {e : MapEntry} → At l k e → t.floor ≤ e.offset
  rising : Rising Lower l
  fresh : {k : ℕ} {e : MapEntry} → At l k e → get_or t.seen (map_code_number e.kind) 0 ≡ 0
  once : {i k : ℕ} {a b : MapEntry} → At l i a → At l k b → a.kind ≡ b.kind → i ≡ k

-- the handles that entries give, after those of t
data Given (l : List MapEntry) (before : Table) : Table → Type 0 where
  found : {k : ℕ} {e : MapEntry} → At l k e → e.kind ≡ 8 → Given l before (record { count = e.size; offset = e.offset })
  kept : ((k : ℕ) (e : MapEntry) → At l k e → e.kind ≡ 8 → ⊥) → Given l before before

lower_strict : Strict Lower
lower_strict = record { never = λ h. omega arith; onward = λ h k. omega arith }

-- one more entry in front
given_first : {e : MapEntry} {l : List MapEntry} {before after : Table} (b : Bool) → eqb e.kind 8 ≡ b → Given l (cond b (record { count = e.size; offset = e.offset }) before) after → Given (e ∷ l) before after
given_first b q (found m k) = found (there m) k
given_first {e} true q (kept none) = found here ((equal e.kind 8).sound q)
given_first {e} {l} {before} false q (kept none) = kept go
  where
    go : (k : ℕ) (x : MapEntry) → At (e ∷ l) k x → x.kind ≡ 8 → ⊥
    go k x here z = false≢true (sym q ∙ (equal e.kind 8).complete z)
    go k x (there m) z = none _ x m z

module _ (s : List ℕ) (j : MapJudge) where
  -- a flag that was set
  set_flag : (seen : List ℕ) (c : ℕ) → c < length seen → get_or (set seen c 1) c 0 ≡ 0 → ⊥
  set_flag seen c p e = let one = get_or-set_same seen c 1 0 p in omega arith

  entry_under : {t : Scan} {e : MapEntry} {u : Scan} → Judged s j t e u → MapEntryAt s j t.place e
  entry_under {e = e} h = record {
    stands = h.stands;
    rule = record { code = (map_code_number e.kind, code_there e.kind h.known); call_sites = h.own.call_sites; handles_version = h.own.handles_version; handles_place = h.own.handles_place };
  }

  -- one more entry in front of entries that fit
  fit_cons : {t : Scan} {e : MapEntry} {l : List MapEntry} → length t.seen ≡ 21 → Judged s j t e (after_entry t e) → Fit s j (after_entry t e) l → Fit s j t (e ∷ l)
  fit_cons {t} {e} {l} long h f = record { each = each; high = high; rising = rising l f; fresh = fresh; once = once }
    where
      inside : map_code_number e.kind < length t.seen
      inside = let z = h.known in omega arith

      other : {k : ℕ} {x : MapEntry} → At l k x → map_code_number x.kind ≡ map_code_number e.kind → ⊥
      other {x = x} m q = set_flag t.seen (map_code_number e.kind) inside (subst (λ (c : ℕ). get_or (set t.seen (map_code_number e.kind) 1) c 0 ≡ 0) q (f.fresh m))

      each : {k : ℕ} {x : MapEntry} → At (e ∷ l) k x → MapEntryAt s j (t.place + 12 * k) x
      each here = let z : t.place ≡ t.place + 12 * 0 = omega arith in subst (λ (p : ℕ). MapEntryAt s j p e) z (entry_under h)
      each {x = x} (there {k = k} m) = let z : t.place + 12 + 12 * k ≡ t.place + 12 * suc k = omega arith in subst (λ (p : ℕ). MapEntryAt s j p x) z (f.each m)

      high : {k : ℕ} {x : MapEntry} → At (e ∷ l) k x → t.floor ≤ x.offset
      high here = h.high
      high (there m) = let a = f.high m in let b = h.high in omega arith

      rising : (m : List MapEntry) → Fit s j (after_entry t e) m → Rising Lower (e ∷ m)
      rising [] g = rising_one
      rising (x ∷ m) g = rising_cons (let a = g.high here in omega arith) g.rising

      fresh : {k : ℕ} {x : MapEntry} → At (e ∷ l) k x → get_or t.seen (map_code_number x.kind) 0 ≡ 0
      fresh here = h.fresh
      fresh {x = x} (there m) = sym (get_or-set_other t.seen (map_code_number e.kind) (map_code_number x.kind) 1 0 (other m)) ∙ f.fresh m

      once : {i k : ℕ} {a b : MapEntry} → At (e ∷ l) i a → At (e ∷ l) k b → a.kind ≡ b.kind → i ≡ k
      once here here q = refl
      once here (there n) q = absurd (other n (ap map_code_number (sym q)))
      once (there m) here q = absurd (other m (ap map_code_number q))
      once (there m) (there n) q = ap suc (f.once m n q)

  -- the first of entries that fit, and the others
  fit_first : {t : Scan} {e : MapEntry} {l : List MapEntry} → Fit s j t (e ∷ l) → Judged s j t e (after_entry t e)
  fit_first {t} {e} f =
      let z : t.place + 12 * 0 ≡ t.place = omega arith in
      let r = subst (λ (p : ℕ). MapEntryAt s j p e) z (f.each here) in
      record {
        stands = r.stands;
        known = code_found r.rule.code.1;
        high = f.high here;
        fresh = f.fresh here;
        own = record { call_sites = r.rule.call_sites; handles_version = r.rule.handles_version; handles_place = r.rule.handles_place };
        next = refl;
      }

  same_kind : {a b i k : ℕ} → At codes i a → At codes k b → map_code_number a ≡ map_code_number b → a ≡ b
  same_kind {a} {b} m n q = at_same (code_there a (code_found m)) (subst (λ (c : ℕ). At codes c b) (sym q) (code_there b (code_found n)))

  fit_rest : {t : Scan} {e : MapEntry} {l : List MapEntry} → Fit s j t (e ∷ l) → Fit s j (after_entry t e) l
  fit_rest {t} {e} {l} f = record { each = each; high = λ m. before_all f.rising m; rising = rising_tail f.rising; fresh = fresh; once = λ m n q. let z = f.once (there m) (there n) q in omega arith }
    where
      each : {k : ℕ} {x : MapEntry} → At l k x → MapEntryAt s j (t.place + 12 + 12 * k) x
      each {k} {x} m = let z : t.place + 12 * suc k ≡ t.place + 12 + 12 * k = omega arith in subst (λ (p : ℕ). MapEntryAt s j p x) z (f.each (there m))

      before_all : Rising Lower (e ∷ l) → {k : ℕ} {x : MapEntry} → At l k x → e.offset + 1 ≤ x.offset
      before_all r {k} {x} m = let z : e.offset < x.offset = rising_far lower_strict r here (there m) (omega arith) in omega arith

      fresh : {k : ℕ} {x : MapEntry} → At l k x → get_or (set t.seen (map_code_number e.kind) 1) (map_code_number x.kind) 0 ≡ 0
      fresh {k} {x} m =
          get_or-set_other t.seen (map_code_number e.kind) (map_code_number x.kind) 1 0
          (λ q. let z = f.once (there m) here (same_kind (f.each (there m)).rule.code.1 (f.each here).rule.code.1 q) in omega arith)
          ∙ f.fresh (there m)

  -- ---- rows are lists that fit
  abbrev Rows : ℕ → Scan → List MapEntry → Scan → Type 0
  Rows n t l u = Row (Judged s j) n t l u

  none_in : {k : ℕ} {e : MapEntry} → At [] k e → ⊥
  none_in m = let z = at_below m in omega arith

  fit_none : (t : Scan) → Fit s j t []
  fit_none t = record { each = λ m. absurd (none_in m); high = λ m. absurd (none_in m); rising = record { rises = λ m k. absurd (none_in m) }; fresh = λ m. absurd (none_in m); once = λ m. absurd (none_in m) }

  rest_long : {t u : Scan} {e : MapEntry} → length t.seen ≡ 21 → Judged s j t e u → length u.seen ≡ 21
  rest_long {t} {u} {e} long h = subst (λ (v : Scan). length v.seen ≡ 21) h.next (length-set t.seen (map_code_number e.kind) 1 ∙ long)

  row_fits : {n : ℕ} {t u : Scan} {l : List MapEntry} → length t.seen ≡ 21 → Rows n t l u → Fit s j t l × (Given l t.handles u.handles × (length l ≡ n))
  unfolding handles_of
  row_fits long (empty {from = t}) = (fit_none t, (kept λ k e m q. none_in m, refl))
  row_fits long (first {a = e} {l = l} {from = t} {t = v} {u = u} h r) =
      let step : Judged s j t e (after_entry t e) = record { stands = h.stands; known = h.known; high = h.high; fresh = h.fresh; own = h.own; next = refl } in
      let rest = row_fits (rest_long long h) r in (
        fit_cons long step (subst (λ (x : Scan). Fit s j x l) (sym h.next) rest.0),
        (given_first (eqb e.kind 8) refl (subst (λ (x : Scan). Given l x.handles u.handles) (sym h.next) rest.1.0), ap suc rest.1.1),
      )

  rows_of : (l : List MapEntry) (n : ℕ) (t : Scan) → length l ≡ n → Fit s j t l → (u : Scan) × Rows n t l u
  rows_of [] zero t p f = (t, empty)
  rows_of [] (suc n) t p f = absurd (omega arith)
  rows_of (e ∷ l) zero t p f = absurd (omega arith)
  rows_of (e ∷ l) (suc n) t p f = let rest = rows_of l n (after_entry t e) (omega arith) (fit_rest f) in (rest.0, first (fit_first f) rest.1)

  -- ---- the list
  given_in : {l : List MapEntry} {t : Table} → Given l (record { count = 0; offset = 0 }) t → HandlesIn l t
  given_in (found m q) = named m q
  given_in (kept none) = unnamed none

  handles_same : {l : List MapEntry} {a b : Table} → ((i k : ℕ) (x y : MapEntry) → At l i x → At l k y → x.kind ≡ y.kind → i ≡ k) → HandlesIn l a → HandlesIn l b → a ≡ b
  handles_same {l} once (named {e = x} m p) (named {e = y} n q) =
      let same = at_same (subst (λ (i : ℕ). At l i x) (once _ _ x y m n (p ∙ sym q)) m) n in
      λ i. record { count = (same i).size; offset = (same i).offset }
  handles_same once (named m p) (unnamed none) = absurd (none _ _ m p)
  handles_same once (unnamed none) (named n q) = absurd (none _ _ n q)
  handles_same once (unnamed none) (unnamed other) = refl

  fit_begin : {m : Map} → MapEntriesRule s j m → Fit s j (begin (j.at + 4)) m.entries
  fit_begin r = record {
    each = λ n. r.entries.each n;
    high = λ n. omega arith;
    rising = r.rising;
    fresh = λ {e = e} n. get_or-replicate 21 (map_code_number e.kind) 0 0 (code_found (r.entries.each n).rule.code.1);
    once = r.once;
  }

  pub list_exact : Exact (list_at s j) (MapEntriesRule s j)
  unfolding list_at list_of
  list_exact =
      exact_iff
      (given_exact (runs_past j.at) (at_most (j.at + 4) (length s)) (given_exact (runs_past j.at) (at_most (j.at + 4 + 12 * u32_at j.order s j.at) (length s))
      (bind_exact _ _ (collect_exact (step_at s j) (Judged s j) (step_exact s j) (u32_at j.order s j.at) (begin (j.at + 4))) (λ r. answer_exact (record { entries = r.item; handles = r.next.handles })))))
      (λ m h. subst (MapEntriesRule s j) h.1.1.1.1 (there_from h.1.1.0.item h.1.1.0.next h.1.0 h.1.1.1.0))
      (λ m r.
      let rows = rows_of m.entries (u32_at j.order s j.at) (begin (j.at + 4)) r.entries.count (fit_begin r) in
      let fits = row_fits refl rows.1 in
      let room = r.room in
      (omega arith, (room, (record { item = m.entries; next = rows.0 }, (rows.1, λ i. record { entries = m.entries; handles = handles_same (λ i k x y m n q. r.once m n q) (given_in fits.1.0) r.handles i })))))
    where
      there_from : (l : List MapEntry) (u : Scan) → j.at + 4 + 12 * u32_at j.order s j.at ≤ length s → Rows (u32_at j.order s j.at) (begin (j.at + 4)) l u → MapEntriesRule s j (record { entries = l; handles = u.handles })
      there_from l u p r =
          let fits = row_fits refl r in
          record { room = p; entries = record { count = fits.1.1; each = λ n. fits.0.each n }; rising = fits.0.rising; once = fits.0.once; handles = given_in fits.1.0 }

-- as many entries as were asked for
pub counted : (s : List ℕ) (j : MapJudge) (count from : ℕ) (r : Found (List MapEntry) Scan) → collect count (step_at s j) (begin from) ≡ answer r → length r.item ≡ count
counted s j count from r e = (row_fits s j refl ((collect_exact (step_at s j) (Judged s j) (step_exact s j) count (begin from)).sound r e)).1.1

pub map_exact : (f : List ℕ) (h : Header) → Exact (map_at f h) (MapRule f h)
unfolding map_at
map_exact f h =
    exact_iff (given_exact (wrong_offset 0) (allowed_decides h.start (length (up_to_end f h)) true h.map) (list_exact (up_to_end f h) (judge_of f h)))
    (λ m r. record { offset = r.0; list = r.1 })
    (λ m r. (r.offset, r.list))

-- any two readings of a map are equal
pub map_same : (f : List ℕ) (h : Header) (a b : Map) → MapRule f h a → MapRule f h b → a ≡ b
map_same f h = same (map_exact f h)
