-- What the functions' proofs cite: the loops over tries and over the starts of handlers.
-- Assumes nothing.
use Prim.Native.Nat.{ℕ, zero, suc, ◌+◌, ◌-◌, ◌*◌, ◌<◌, ◌≤◌}
use mathlib.Core.Path.{◌≡◌, refl, ap, sym, ◌∙◌}
use mathlib.Core.Bool.{Bool, true, false, cond}
use mathlib.Core.List.{List}
use lib.ListN.{length}
use lib.Dec.{leb, eqb}
use borrow.Author.Rules.{rules}
use borrow.Author.Tests.{le-leb, lt-leb, eq-eqb, ne_eqb}
use native.Mathlib.Omega.{arith}
use Rattle.refusal.specs.Refusals.{wrong_code}
use Rattle.refusal.specs.declared.Refusal.{Refusal}
use Rattle.refusal.specs.Outcome.{answer, refused, ◌>>=◌}
use Rattle.refusal.specs.Rows.{Found}
use Rattle.refusal.proofs.Laws.{handed_on, all_left, some_left, one_less, none_left, tests, bind_answer, bind_refused, refused_by, passes, fails, picks, leaves}
use Rattle.refusal.proofs.Choose.{Choosing, choosing_first, choosing_next, choosing_stop, choosing_done}
use Rattle.word.specs.Words.{u16_at, u32_at}
use Rattle.word.specs.declared.Endian.{Endian}
use Rattle.handlers.specs.declared.HandlerJudge.{HandlerJudge}
use Rattle.handlers.specs.declared.Brief.{Brief}
use Rattle.handlers.specs.Handlers as H
use Rattle.handlers.proofs.Laws.{behind, unread}
use Rattle.code_bodies.specs.declared.Try.{Try}
use Rattle.code_bodies.specs.Tries.{try_at, try_allowed, judged, step_at, begin, is_start, no_try, item_alone, kept_try, link_from, walk_at, kept_link}

-- ---- the loop of `tries_found` at its head
pub record Trying (o : Endian) (s : List ℕ) (units item from count k place floor i : ℕ) (keep : Try) : Type 0 where
  choosing : Choosing (step_at o s units item) count (begin from) no_try k (record { place = place; floor = floor }) i keep
  pub room : place + 8 * (count - i) ≤ length s

pub trying_first : (o : Endian) (s : List ℕ) (units item from count k : ℕ) → from + 8 * count ≤ length s → Trying o s units item from count k from 0 0 no_try
trying_first o s units item from count k h = record { choosing = choosing_first (step_at o s units item) count (begin from) no_try k; room = omega arith }

module _ {o : Endian} {s : List ℕ} {units item from count k place floor i : ℕ} {keep : Try} (h : Trying o s units item from count k place floor i keep) where
  pub trying_room : i < count → place + 8 ≤ length s
  trying_room l = let z = h.room in omega arith

  module _ {t : Try} {b : Bool} (l : i < count) (read : t ≡ try_at o s place) (asked : b ≡ try_allowed units floor t) where
    pub trying_next : {new : Try} → b ≡ true → new ≡ cond (eqb i k) t keep → Trying o s units item from count k (place + 8) (t.start + t.count) (i + 1) new
    unfolding step_at judged
    trying_next e w = record {
      choosing = choosing_next h.choosing l (passes (wrong_code item) (sym asked ∙ e) refl ∙ ap (judged units item (record { place = place; floor = floor })) read) w;
      room = let z = h.room in omega arith;
    }

    pub trying_stop : {r : Refusal} → b ≡ false → r ≡ wrong_code item → refused r ≡ kept_try o s units item from count k
    unfolding kept_try step_at judged
    trying_stop e made = sym (bind_refused item_alone (sym (choosing_stop h.choosing l (fails _ made (sym asked ∙ e) ∙ ap (judged units item (record { place = place; floor = floor })) read))))

  pub trying_done : count ≤ i → answer keep ≡ kept_try o s units item from count k
  unfolding kept_try
  trying_done l = sym (bind_answer item_alone (sym (choosing_done h.choosing l)))

module _ (units floor : ℕ) (t : Try) where
  pub try_low : t.start < floor → false ≡ try_allowed units floor t
  unfolding try_allowed
  try_low h = rw (lt-leb floor t.start h)

  pub try_room : floor ≤ t.start → leb (t.start + t.count) units ≡ try_allowed units floor t
  unfolding try_allowed
  try_room h = rw (le-leb floor t.start h)

-- ---- the inner loop of `links_at` at its head: the search for a start is the search from here
pub record Starting (s : List ℕ) (j : HandlerJudge) (want first handlers p number : ℕ) : Type 0 where
  same : link_from s j want handlers first 0 ≡ link_from s j want (handlers - number) p number

pub starting_first : (s : List ℕ) (j : HandlerJudge) (want first handlers : ℕ) → Starting s j want first handlers first 0
starting_first s j want first handlers = record { same = ap (λ (m : ℕ). link_from s j want m first 0) all_left }

module _ {s : List ℕ} {j : HandlerJudge} {want first handlers p number : ℕ} (h : Starting s j want first handlers p number) where
  start_more : (left : ℕ) → 0 < left → link_from s j want left p number
      ≡ (H.handler_at s j p >>= λ (a : Found H.Handler ℕ). cond (is_start want a.item) (answer number) (link_from s j want (left - 1) a.next (number + 1)))
  unfolding link_from
  start_more zero q = absurd (omega arith)
  start_more (suc n) q =
      let back : suc n - 1 ≡ n = omega arith in
      rw back

  pub starting_none : {r : Refusal} → handlers ≤ number → r ≡ wrong_code j.item → refused r ≡ link_from s j want handlers first 0
  unfolding link_from
  starting_none q made = refused_by made ∙ sym (h.same ∙ go (handlers - number) (none_left q))
    where
      go : (n : ℕ) → n ≤ 0 → link_from s j want n p number ≡ refused (wrong_code j.item)
      go zero q = refl
      go (suc n) q = absurd (omega arith)

  module _ (q : number < handlers) where
    more : link_from s j want handlers first 0 ≡ (H.handler_at s j p >>= λ (a : Found H.Handler ℕ). cond (is_start want a.item) (answer number) (link_from s j want (handlers - number - 1) a.next (number + 1)))
    more = h.same ∙ start_more (handlers - number) (some_left q)

    pub starting_stop : {r : Refusal} → refused r ≡ H.kept_handler s j 0 p → refused r ≡ link_from s j want handlers first 0
    starting_stop e = sym (more ∙ bind_refused _ (sym (unread s j 0 p e)))

    module _ {b : Brief} {n : ℕ} (e : answer (record { item = b; next = n }) ≡ H.kept_handler s j 0 p) where
      pub starting_next : (b.offset ≡ want → ⊥) → Starting s j want first handlers n (number + 1)
      unfolding is_start
      starting_next d =
          let a = behind s j 0 p e in
          let offset = ap (λ (x : Brief). x.offset) a.1.1 in
          record { same = more ∙ bind_answer _ (sym a.1.0) ∙ sym (leaves _ (ne_eqb a.0.offset want (λ y. d (sym offset ∙ y))) refl) ∙ ap (λ (m : ℕ). link_from s j want m n (number + 1)) (one_less q) }

      pub starting_found : b.offset ≡ want → answer number ≡ link_from s j want handlers first 0
      unfolding is_start
      starting_found d =
          let a = behind s j 0 p e in
          let offset = ap (λ (x : Brief). x.offset) a.1.1 in
          sym (more ∙ bind_answer _ (sym a.1.0) ∙ sym (picks _ (eq-eqb a.0.offset want (offset ∙ d)) refl))

-- ---- the outer loop of `links_at` at its head
pub record Linking (o : Endian) (s : List ℕ) (j : HandlerJudge) (first handlers from count k place i keep : ℕ) : Type 0 where
  choosing : Choosing (walk_at o s j first handlers) count from 0 k place i keep
  pub room : place + 8 * (count - i) ≤ length s

pub linking_first : (o : Endian) (s : List ℕ) (j : HandlerJudge) (first handlers from count k : ℕ) → from + 8 * count ≤ length s → Linking o s j first handlers from count k from 0 0
linking_first o s j first handlers from count k h = record { choosing = choosing_first (walk_at o s j first handlers) count from 0 k; room = omega arith }

module _ {o : Endian} {s : List ℕ} {j : HandlerJudge} {first handlers from count k place i keep : ℕ} (h : Linking o s j first handlers from count k place i keep) where
  pub linking_room : i < count → place + 8 ≤ length s
  linking_room l = let z = h.room in omega arith

  module _ {want : ℕ} (l : i < count) (is : want ≡ u16_at o s (place + 6)) where
    pub linking_next : {n new : ℕ} → answer n ≡ link_from s j want handlers first 0 → new ≡ cond (eqb i k) n keep → Linking o s j first handlers from count k (place + 8) (i + 1) new
    unfolding walk_at
    linking_next e w = record {
      choosing = choosing_next h.choosing l (sym (bind_answer _ (sym (e ∙ ap (λ (x : ℕ). link_from s j x handlers first 0) is)))) w;
      room = let z = h.room in omega arith;
    }

    pub linking_stop : {r : Refusal} → refused r ≡ link_from s j want handlers first 0 → refused r ≡ kept_link o s j first handlers from count k
    unfolding kept_link walk_at
    linking_stop e = sym (bind_refused item_alone (sym (choosing_stop h.choosing l (sym (bind_refused _ (sym (e ∙ ap (λ (x : ℕ). link_from s j x handlers first 0) is)))))))

  pub linking_done : count ≤ i → answer keep ≡ kept_link o s j first handlers from count k
  unfolding kept_link
  linking_done l = sym (bind_answer item_alone (sym (choosing_done h.choosing l)))

-- the inner loop within a turn of the outer one
pub record Seeking (o : Endian) (s : List ℕ) (j : HandlerJudge) (first handlers from count k place i keep want p number : ℕ) : Type 0 where
  pub linking : Linking o s j first handlers from count k place i keep
  pub turn : i < count
  pub is : want ≡ u16_at o s (place + 6)
  pub starting : Starting s j want first handlers p number

pub seeking_first : {o : Endian} {s : List ℕ} {j : HandlerJudge} {first handlers from count k place i keep want : ℕ}
    → Linking o s j first handlers from count k place i keep → i < count → want ≡ u16_at o s (place + 6) → Seeking o s j first handlers from count k place i keep want first 0
seeking_first {s = s} {j = j} {first = first} {handlers = handlers} {want = want} h l is = record { linking = h; turn = l; is = is; starting = starting_first s j want first handlers }

module _ {o : Endian} {s : List ℕ} {j : HandlerJudge} {first handlers from count k place i keep want p number : ℕ} (h : Seeking o s j first handlers from count k place i keep want p number) where
  pub seeking_none : {r : Refusal} → handlers ≤ number → r ≡ wrong_code j.item → refused r ≡ kept_link o s j first handlers from count k
  seeking_none q made = linking_stop h.linking h.turn h.is (starting_none h.starting q made)

  module _ (q : number < handlers) where
    pub seeking_stop : {r : Refusal} → refused r ≡ H.kept_handler s j 0 p → refused r ≡ kept_link o s j first handlers from count k
    seeking_stop e = linking_stop h.linking h.turn h.is (starting_stop h.starting q e)

    module _ {b : Brief} {n : ℕ} (e : answer (record { item = b; next = n }) ≡ H.kept_handler s j 0 p) where
      pub seeking_next : (b.offset ≡ want → ⊥) → Seeking o s j first handlers from count k place i keep want n (number + 1)
      seeking_next d = record { linking = h.linking; turn = h.turn; is = h.is; starting = starting_next h.starting q e d }

      pub seeking_found : {new : ℕ} → b.offset ≡ want → new ≡ cond (eqb i k) number keep → Linking o s j first handlers from count k (place + 8) (i + 1) new
      seeking_found d w = linking_next h.linking h.turn h.is (starting_found h.starting q e d) w

pub ruleset try_laws = (trying_first, trying_room, trying_next, trying_stop, trying_done, try_low, try_room, tests, rules)

pub ruleset link_laws = (linking_first, linking_room, linking_done, seeking_first, seeking_none, seeking_stop, seeking_next, seeking_found, handed_on, rules)

-- ---- a try from the values that were read
pub try_by : (o : Endian) (s : List ℕ) (p : ℕ) {a b c : ℕ} → a ≡ u32_at o s p → b ≡ u16_at o s (p + 4) → c ≡ u16_at o s (p + 6) → record { start = a; count = b; handler = c } ≡ try_at o s p
try_by o s p e f g = λ i. record { start = e i; count = f i; handler = g i }

pub ruleset read_laws = (try_by, rules)
