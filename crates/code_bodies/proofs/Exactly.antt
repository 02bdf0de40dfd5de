-- The reading of a code item finds exactly what the rule allows.
-- Assumes nothing.
use Prim.Native.Nat.{ℕ, zero, suc, ◌+◌, ◌*◌, ◌<◌, ◌≤◌}
use mathlib.Core.Path.{◌≡◌, refl, ap, sym, subst, ◌∙◌}
use mathlib.Core.Logic.{◌⊎◌, inl, inr}
use mathlib.Core.Option.{Option, none, some}
use mathlib.Core.List.{List, [], ◌∷◌}
use lib.ListN.{length}
use native.Mathlib.Omega.{arith}
use Rattle.refusal.specs.Refusals.{runs_past, wrong_code}
use Rattle.refusal.specs.Rows.{Found}
use Rattle.refusal.specs.Seek.{position}
use Rattle.refusal.specs.Exact.{Exact, Decides, Row, empty, first, At, here, there, Each, Alike, Rising, Sought, found}
use Rattle.refusal.proofs.Exact.{same, never, answer_exact, given_exact, bind_exact, either_exact, exact_iff, below, at_most, equal, both}
use Rattle.refusal.proofs.Rows.{collect_exact}
use Rattle.refusal.proofs.Each.{at_below, at_some, rising_one, rising_cons, rising_tail}
use Rattle.refusal.proofs.Seek.{position_sought, sought_same}
use Rattle.refusal.proofs.Choose.{row_length}
use Rattle.word.specs.Words.{u16_at}
use Rattle.word.specs.declared.Endian.{Endian}
use Rattle.frame.specs.declared.Frame.{Frame}
use Rattle.handlers.specs.Handlers.{Handler, HandlerList}
use Rattle.handlers.specs.Rules.{HandlersRule}
use Rattle.handlers.proofs.Exactly.{handlers_exact, handlers_apart, handlers_lie}
use Rattle.code_units.specs.Units.{units_at}
use Rattle.code_heads.specs.declared.CodeHead.{CodeHead}
use Rattle.code_heads.specs.Heads.{body_size}
use Rattle.code_heads.specs.Rules.{CodeHeadRule}
use Rattle.code_heads.proofs.Exactly.{head_exact}
use Rattle.code_bodies.specs.declared.Try.{Try}
use Rattle.code_bodies.specs.Tries.{try_at, try_allowed, Run, judged, step_at, begin, tries_at, linked, is_start, link_at, links_at}
use Rattle.code_bodies.specs.Code.{judge_of, list_at, Code, parts_at, body_at, code_at}
use Rattle.code_bodies.specs.Rules.{TryRule, EndsBefore, LinkRule, CodeRule}

-- ---- tries
-- a step of the reading over tries
record TryStep (o : Endian) (s : List ℕ) (units : ℕ) (r : Run) (t : Try) (u : Run) : Type 0 where
  bytes : try_at o s r.place ≡ t
  after : r.floor ≤ t.start
  within : t.start + t.count ≤ units
  place : r.place + 8 ≡ u.place
  floor : t.start + t.count ≡ u.floor

step_exact : (o : Endian) (s : List ℕ) (units item : ℕ) (r : Run) → Exact (step_at o s units item r) (λ (x : Found Try Run). TryStep o s units r x.item x.next)
unfolding step_at judged try_allowed
step_exact o s units item r =
    exact_iff (given_exact (wrong_code item) (both (at_most r.floor (try_at o s r.place).start) (at_most ((try_at o s r.place).start + (try_at o s r.place).count) units)) (answer_exact _))
    (λ x h. subst (λ (y : Found Try Run). TryStep o s units r y.item y.next) h.1 (record { bytes = refl; after = h.0.0; within = h.0.1; place = refl; floor = refl }))
    (λ x h. parted x.item x.next h)
  where
    parted : (t : Try) (u : Run) → TryStep o s units r t u
        → ((r.floor ≤ (try_at o s r.place).start) × ((try_at o s r.place).start + (try_at o s r.place).count ≤ units))
        × ◌≡◌ {A = Found Try Run} (record { item = try_at o s r.place; next = record { place = r.place + 8; floor = (try_at o s r.place).start + (try_at o s r.place).count } }) (record { item = t; next = u })
    parted t u h =
        let start = ap (λ (x : Try). x.start) h.bytes in
        let count = ap (λ (x : Try). x.count) h.bytes in
        let low = h.after in
        let high = h.within in
        ((omega arith, omega arith), λ i. record { item = h.bytes i; next = record { place = h.place i; floor = ((λ j. start j + count j) ∙ h.floor) i } })

-- a row of steps is a list of tries, each by its number, of which each starts at or after the end of the one before
module _ (o : Endian) (s : List ℕ) (units : ℕ) where
  abbrev pub EachTry : ℕ → ℕ → List Try → Type 0
  EachTry p n l = Each (λ (k : ℕ) (t : Try). TryRule o s units (p + 8 * k) t) n l

  pub tries_head : (p : ℕ) {n : ℕ} {t : Try} {l : List Try} → EachTry p n (t ∷ l) → TryRule o s units p t
  tries_head p {t = t} e = let z : p + 8 * 0 ≡ p = omega arith in subst (λ (x : ℕ). TryRule o s units x t) z (e.each here)

  pub tries_tail : (p : ℕ) {n : ℕ} {t : Try} {l : List Try} → EachTry p (suc n) (t ∷ l) → EachTry (p + 8) n l
  tries_tail p e = record {
    count = let z = e.count in omega arith;
    each = λ {k} {a = x} m. let z : p + 8 * suc k ≡ p + 8 + 8 * k = omega arith in subst (λ (y : ℕ). TryRule o s units y x) z (e.each (there m));
  }

  tries_cons : (p : ℕ) {n : ℕ} {t : Try} {l : List Try} → TryRule o s units p t → EachTry (p + 8) n l → EachTry p (suc n) (t ∷ l)
  tries_cons p {n} {t} {l} h e = record { count = ap suc e.count; each = go }
    where
      go : {k : ℕ} {x : Try} → At (t ∷ l) k x → TryRule o s units (p + 8 * k) x
      go here = let z : p ≡ p + 8 * 0 = omega arith in subst (λ (y : ℕ). TryRule o s units y t) z h
      go {x = x} (there {k = k} m) = let z : p + 8 + 8 * k ≡ p + 8 * suc k = omega arith in subst (λ (y : ℕ). TryRule o s units y x) z (e.each m)

  -- the tries of a row of steps
  tries_read : {n : ℕ} {r u : Run} {l : List Try} → Row (TryStep o s units) n r l u → EachTry r.place n l
  tries_read empty = record { count = refl; each = λ m. absurd (let z = at_below m in omega arith) }
  tries_read (first {n = n} {l = l} {from = r} h rest) =
      tries_cons r.place (record { start = ap (λ (x : Try). x.start) h.bytes; count = ap (λ (x : Try). x.count) h.bytes; handler = ap (λ (x : Try). x.handler) h.bytes; within = h.within })
      (subst (λ (p : ℕ). EachTry p n l) (sym h.place) (tries_read rest))

  try_before : {n : ℕ} {r v u : Run} {t : Try} {l : List Try} → TryStep o s units r t v → Row (TryStep o s units) n v l u → Rising EndsBefore l → Rising EndsBefore (t ∷ l)
  try_before h empty rest = rising_one
  try_before h (first g r) rest =
      let floor = h.floor in
      let after = g.after in
      rising_cons (omega arith) rest

  tries_rise : {n : ℕ} {r u : Run} {l : List Try} → Row (TryStep o s units) n r l u → Rising EndsBefore l
  tries_rise empty = record { rises = λ m n. absurd (let z = at_below n in omega arith) }
  tries_rise (first h rest) = try_before h rest (tries_rise rest)

  -- and such a list is a row of steps
  tries_row : (l : List Try) (n p floor : ℕ) → EachTry p n l → Rising EndsBefore l → ((t : Try) → At l 0 t → floor ≤ t.start) → (u : Run) × Row (TryStep o s units) n (record { place = p; floor = floor }) l u
  tries_row [] zero p floor e rises after = (record { place = p; floor = floor }, empty)
  tries_row [] (suc n) p floor e rises after = absurd (let z = e.count in omega arith)
  tries_row (t ∷ l) zero p floor e rises after = absurd (let z = e.count in omega arith)
  tries_row (t ∷ l) (suc n) p floor e rises after =
      let h = tries_head p e in
      let rest = tries_row l n (p + 8) (t.start + t.count) (tries_tail p e) (rising_tail rises) (λ x m. rises.rises here (there m)) in
      (rest.0, first (record { bytes = λ i. record { start = h.start i; count = h.count i; handler = h.handler i }; after = after t here; within = h.within; place = refl; floor = refl }) rest.1)

-- ---- handler offsets
-- a step of the reading over handler offsets
record LinkStep (o : Endian) (s : List ℕ) (handlers : List Handler) (p n q : ℕ) : Type 0 where
  starts : position (is_start (u16_at o s (p + 6))) handlers ≡ some n
  place : p + 8 ≡ q

linked_exact : (item : ℕ) (o : Option ℕ) → Exact (linked item o) (λ (n : ℕ). o ≡ some n)
unfolding linked
linked_exact item (some n) = exact_iff (answer_exact n) (λ m e. ap some e) (λ m e. let z : n ≡ m = cc in z)
linked_exact item none = record { sound = λ n e. absurd (never e); complete = λ n e. absurd (let z : ◌≡◌ {A = ℕ} 0 1 = cc in omega arith) }

link_exact : (o : Endian) (s : List ℕ) (handlers : List Handler) (item p : ℕ) → Exact (link_at o s handlers item p) (λ (r : Found ℕ ℕ). LinkStep o s handlers p r.item r.next)
unfolding link_at
link_exact o s handlers item p =
    exact_iff (bind_exact _ _ (linked_exact item (position (is_start (u16_at o s (p + 6))) handlers)) (λ n. answer_exact _))
    (λ r h. subst (λ (x : Found ℕ ℕ). LinkStep o s handlers p x.item x.next) h.1.1 (record { starts = h.1.0; place = refl }))
    (λ r h. (r.item, (h.starts, λ i. record { item = r.item; next = h.place i })))

-- no two handlers of a list start at one offset
abbrev pub StartsApart : List Handler → Type 0
StartsApart handlers = (m n : ℕ) (a b : Handler) → At handlers m a → At handlers n b → a.offset ≡ b.offset → m ≡ n

-- the handler that the search finds is the one that starts there
module _ (handlers : List Handler) (want : ℕ) where
  start_decides : (h : Handler) → Decides (is_start want h) (h.offset ≡ want)
  unfolding is_start
  start_decides h = equal h.offset want

  sought : Sought (λ (h : Handler). h.offset ≡ want) handlers (position (is_start want) handlers)
  sought = position_sought (is_start want) start_decides handlers

  start_found : {n : ℕ} → position (is_start want) handlers ≡ some n → (h : Handler) × (At handlers n h × (h.offset ≡ want))
  start_found {n} e = go (subst (Sought (λ (h : Handler). h.offset ≡ want) handlers) e sought)
    where
      go : Sought (λ (h : Handler). h.offset ≡ want) handlers (some n) → (h : Handler) × (At handlers n h × (h.offset ≡ want))
      go (found {a = h} m q) = (h, (m, q))

  start_only : StartsApart handlers → {n : ℕ} {h : Handler} → At handlers n h → h.offset ≡ want → position (is_start want) handlers ≡ some n
  start_only apart m e = sought_same (λ i j a b x y p q. apart i j a b x y (p ∙ sym q)) sought (found m e)

module _ (o : Endian) (s : List ℕ) (handlers : List Handler) where
  -- the search for the handler offset of try k, of those from p on, finds number n
  abbrev LinkedBy : ℕ → ℕ → ℕ → Type 0
  LinkedBy p k n = position (is_start (u16_at o s (p + 8 * k + 6))) handlers ≡ some n

  links_read : {n p q : ℕ} {l : List ℕ} {k m : ℕ} → Row (LinkStep o s handlers) n p l q → At l k m → LinkedBy p k m
  links_read {m = m} (first {from = p} h r) here = let z : p + 6 ≡ p + 8 * 0 + 6 = omega arith in subst (λ (x : ℕ). position (is_start (u16_at o s x)) handlers ≡ some m) z h.starts
  links_read {m = m} (first {from = p} {t = t} h r) (there {k = k} a) =
      let e = h.place in
      let z : t + 8 * k + 6 ≡ p + 8 * suc k + 6 = omega arith in
      subst (λ (x : ℕ). position (is_start (u16_at o s x)) handlers ≡ some m) z (links_read r a)
  links_read {k = k} {m = m} (empty {from = from}) x6 = elim x6 [ ]

  links_row : (l : List ℕ) (p : ℕ) → ((k m : ℕ) → At l k m → LinkedBy p k m) → (q : ℕ) × Row (LinkStep o s handlers) (length l) p l q
  links_row [] p h = (p, empty)
  links_row (m ∷ l) p h =
      let z : p + 8 * 0 + 6 ≡ p + 6 = omega arith in
      let rest = links_row l (p + 8) (λ k n a. let y : p + 8 * suc k + 6 ≡ p + 8 + 8 * k + 6 = omega arith in subst (λ (x : ℕ). position (is_start (u16_at o s x)) handlers ≡ some n) y (h (suc k) n (there a))) in
      (rest.0, first (record { starts = subst (λ (x : ℕ). position (is_start (u16_at o s x)) handlers ≡ some m) z (h 0 m here); place = refl }) rest.1)

  -- a row of steps is a list of links, each beside its try
  module _ {units : ℕ} where
    links_alike : (p : ℕ) {n q : ℕ} {tries : List Try} {links : List ℕ} → EachTry o s units p n tries → Row (LinkStep o s handlers) n p links q → Alike (LinkRule handlers) tries links
    links_alike p e r = record {
      count = row_length r ∙ sym e.count;
      each = λ {k} a b.
          let there_is = start_found handlers (u16_at o s (p + 8 * k + 6)) (links_read r b) in
          record { handler = there_is.0; stands = there_is.1.0; starts = there_is.1.1 ∙ (e.each a).handler };
    }

    links_found : StartsApart handlers → (p : ℕ) {n : ℕ} {tries : List Try} {links : List ℕ} → EachTry o s units p n tries → Alike (LinkRule handlers) tries links → (k m : ℕ) → At links k m → LinkedBy p k m
    links_found apart p {tries = tries} e both k m b =
        let low = at_below b in
        let long = both.count in
        let t = at_some tries k (omega arith) in
        let link = both.each t.1 b in
        start_only handlers (u16_at o s (p + 8 * k + 6)) apart link.stands (link.starts ∙ sym (e.each t.1).handler)

    links_back : StartsApart handlers → (p : ℕ) {n : ℕ} {tries : List Try} {links : List ℕ} → EachTry o s units p n tries → Alike (LinkRule handlers) tries links → (q : ℕ) × Row (LinkStep o s handlers) n p links q
    links_back apart p {n} {tries} {links} e both =
        let row = links_row links p (links_found apart p e both) in
        (row.0, subst (λ (x : ℕ). Row (LinkStep o s handlers) x p links row.0) (both.count ∙ e.count) row.1)

-- ---- the whole
module _ (s : List ℕ) (f : Frame) (item : ℕ) where
  list_exact : (h : CodeHead) (base : ℕ) → Exact (list_at s f item h base) (λ (l : HandlerList).
      ((0 < h.tries) × HandlersRule s (judge_of f item h base) l) ⊎ ((0 < h.tries → ⊥) × (record { first = base; handlers = []; end = base } ≡ l)))
  unfolding list_at
  list_exact h base = either_exact (below 0 h.tries) (handlers_exact s (judge_of f item h base)) (answer_exact _)

  -- tries, handler list and links, from a head
  record PartsRule (h : CodeHead) (from base : ℕ) (c : Code) : Type 0 where
    run : Run
    after_links : ℕ
    head_is : h ≡ c.head
    tries : Row (TryStep f.order s h.units) h.tries (begin from) c.tries run
    handlers : ((0 < h.tries) × HandlersRule s (judge_of f item h base) c.handlers) ⊎ ((0 < h.tries → ⊥) × (record { first = base; handlers = []; end = base } ≡ c.handlers))
    links : Row (LinkStep f.order s c.handlers.handlers) h.tries from c.links after_links
    units : units_at f.order s (item + 16) h.units ≡ c.units
    from_is : from ≡ c.from
    base_is : base ≡ c.base

  parts_exact : (h : CodeHead) (from base : ℕ) → Exact (parts_at s f item h from base) (PartsRule h from base)
  unfolding parts_at tries_at links_at
  parts_exact h from base =
      exact_iff (bind_exact _ _ (collect_exact (step_at f.order s h.units item) (TryStep f.order s h.units) (step_exact f.order s h.units item) h.tries (begin from))
      (λ t. bind_exact _ _ (list_exact h base) (λ l. bind_exact _ _
      (collect_exact (link_at f.order s l.handlers item) (LinkStep f.order s l.handlers) (link_exact f.order s l.handlers item) h.tries from) (λ n. answer_exact _))))
      (λ c e. subst (PartsRule h from base) e.1.1.1.1.1.1
      (record { run = e.0.next; after_links = e.1.1.1.1.0.next; head_is = refl; tries = e.1.0; handlers = e.1.1.1.0; links = e.1.1.1.1.1.0; units = refl; from_is = refl; base_is = refl }))
      (λ c e. (
        record { item = c.tries; next = e.run },
        (
          e.tries,
          (
            c.handlers,
            (
              e.handlers,
              (
                record { item = c.links; next = e.after_links },
                (
                  e.links,
                  λ i. record { head = e.head_is i; units = e.units i; tries = c.tries; handlers = c.handlers; links = c.links; from = e.from_is i; base = e.base_is i },
                ),
              ),
            ),
          ),
        ),
      ))

  -- no two handlers start at one offset, also where there is no list
  list_apart : (h : CodeHead) (base : ℕ) (l : HandlerList) → ((0 < h.tries) × HandlersRule s (judge_of f item h base) l) ⊎ ((0 < h.tries → ⊥) × (record { first = base; handlers = []; end = base } ≡ l)) → StartsApart l.handlers
  list_apart h base l (inl x) = handlers_apart s (judge_of f item h base) l x.1
  list_apart h base l (inr x) = subst (λ (y : HandlerList). StartsApart y.handlers) x.1 (λ m n a b p q e. absurd (let z = at_below p in omega arith))

  body_whole : (c : Code) (h : CodeHead) → CodeHeadRule s f item h → item + (body_size h + 8 * h.tries) ≤ length s → PartsRule h (item + body_size h) (item + (body_size h + 8 * h.tries)) c → CodeRule s f item c
  body_whole c h a room p =
      let tries : EachTry f.order s h.units (item + body_size h) h.tries c.tries = tries_read f.order s h.units p.tries in
      record {
        head = subst (CodeHeadRule s f item) p.head_is a;
        room = subst (λ (w : CodeHead). item + (body_size w + 8 * w.tries) ≤ length s) p.head_is room;
        tries = subst (λ (w : ℕ). EachTry f.order s c.head.units w c.head.tries c.tries) p.from_is
            (subst (λ (w : CodeHead). EachTry f.order s w.units (item + body_size h) w.tries c.tries) p.head_is tries);
        in_order = tries_rise f.order s h.units p.tries;
        handlers = subst (λ (w : ℕ). ((0 < c.head.tries) × HandlersRule s (judge_of f item c.head w) c.handlers) ⊎ ((0 < c.head.tries → ⊥) × (record { first = w; handlers = []; end = w } ≡ c.handlers))) p.base_is
            (subst (λ (w : CodeHead). ((0 < w.tries) × HandlersRule s (judge_of f item w (item + (body_size h + 8 * h.tries))) c.handlers)
            ⊎ ((0 < w.tries → ⊥) × (record { first = item + (body_size h + 8 * h.tries); handlers = []; end = item + (body_size h + 8 * h.tries) } ≡ c.handlers))) p.head_is p.handlers);
        links = links_alike f.order s c.handlers.handlers (item + body_size h) tries p.links;
        units = subst (λ (w : CodeHead). units_at f.order s (item + 16) w.units ≡ c.units) p.head_is p.units;
        from = subst (λ (w : CodeHead). item + body_size w ≡ c.from) p.head_is p.from_is;
        base = subst (λ (w : CodeHead). item + (body_size w + 8 * w.tries) ≡ c.base) p.head_is p.base_is;
      }

  body_back : (c : Code) → CodeRule s f item c → PartsRule c.head (item + body_size c.head) (item + (body_size c.head + 8 * c.head.tries)) c
  body_back c e =
      let tries : EachTry f.order s c.head.units (item + body_size c.head) c.head.tries c.tries = subst (λ (w : ℕ). EachTry f.order s c.head.units w c.head.tries c.tries) (sym e.from) e.tries in
      let row = tries_row f.order s c.head.units c.tries c.head.tries (item + body_size c.head) 0 tries e.in_order (λ t m. omega arith) in
      let linked-row = links_back f.order s c.handlers.handlers (list_apart c.head c.base c.handlers e.handlers) (item + body_size c.head) tries e.links in
      record {
        run = row.0;
        after_links = linked-row.0;
        head_is = refl;
        tries = row.1;
        handlers = subst (λ (w : ℕ). ((0 < c.head.tries) × HandlersRule s (judge_of f item c.head w) c.handlers) ⊎ ((0 < c.head.tries → ⊥) × (record { first = w; handlers = []; end = w } ≡ c.handlers))) (sym e.base) e.handlers;
        links = linked-row.1;
        units = e.units;
        from_is = e.from;
        base_is = e.base;
      }

  pub code_exact : Exact (code_at s f item) (CodeRule s f item)
  unfolding code_at body_at
  code_exact =
      exact_iff (bind_exact _ _ (head_exact s f item) (λ h. given_exact (runs_past item) (at_most (item + (body_size h + 8 * h.tries)) (length s)) (parts_exact h (item + body_size h) (item + (body_size h + 8 * h.tries)))))
      (λ c e. body_whole c e.0 e.1.0 e.1.1.0 e.1.1.1)
      (λ c e. (c.head, (e.head, (e.room, body_back c e))))

  -- two readings of one place are equal
  pub code_same : (a b : Code) → CodeRule s f item a → CodeRule s f item b → a ≡ b
  code_same = same code_exact

  -- ---- tries and their handlers
  -- there are as many links as tries, and as many tries as the head says
  pub links_counted : (c : Code) → CodeRule s f item c → length c.links ≡ c.head.tries
  links_counted c e = e.links.count ∙ e.tries.count

  -- the number that a try has beside it is that of the one handler at its offset
  pub link_only : (c : Code) → CodeRule s f item c → {k n m : ℕ} {t : Try} {h : Handler} → At c.tries k t → At c.links k n → At c.handlers.handlers m h → h.offset ≡ t.handler → m ≡ n
  link_only c e {n = n} {m = m} {h = h} a b p q = let link = e.links.each a b in list_apart c.head c.base c.handlers e.handlers m n h link.handler p link.stands (q ∙ sym link.starts)

  -- ---- bounds: the parts of an item follow one another, and end within the slice
  pub record Lies (c : Code) : Type 0 where
    pub units_inside : item + 16 + 2 * c.head.units ≤ c.from
    pub tries_inside : c.from + 8 * c.head.tries ≡ c.base
    pub base_inside : c.base ≤ c.handlers.end
    pub inside : c.handlers.end ≤ length s

  pub code_lies : (c : Code) → CodeRule s f item c → Lies c
  unfolding body_size
  code_lies c e =
      let from = e.from in
      let base = e.base in
      let room = e.room in
      let last = go e.handlers in
      record { units_inside = omega arith; tries_inside = omega arith; base_inside = last.0; inside = last.1 }
    where
      go : ((0 < c.head.tries) × HandlersRule s (judge_of f item c.head c.base) c.handlers) ⊎ ((0 < c.head.tries → ⊥) × (record { first = c.base; handlers = []; end = c.base } ≡ c.handlers))
          → (c.base ≤ c.handlers.end) × (c.handlers.end ≤ length s)
      go (inl h) =
          let l = handlers_lie s (judge_of f item c.head c.base) c.handlers h.1 in
          let a = l.first_after in
          let b = l.end_after in
          (omega arith, l.inside)
      go (inr h) =
          let z = ap (λ (l : HandlerList). l.end) h.1 in
          let base = e.base in
          let room = e.room in
          (omega arith, omega arith)
