-- The stages of a code item: of the whole one try with its handler's number, and one handler, are kept.
-- Assumes nothing.
use Prim.Native.Nat.{ℕ, suc, ◌+◌, ◌-◌, ◌*◌, ◌<◌, ◌≤◌}
use mathlib.Core.Path.{◌≡◌, refl, ap, sym, ◌∙◌, fun_ext}
use mathlib.Core.Bool.{Bool, true, false, cond}
use mathlib.Core.Option.{Option, none, some}
use mathlib.Core.List.{List, []}
use lib.ListN.{length, get_or}
use lib.Dec.{ltb, leb}
use borrow.Author.Rules.{rules}
use borrow.Author.Tests.{le-leb, lt-leb, ltb-false}
use native.Mathlib.Omega.{arith}
use Rattle.refusal.specs.Refusals.{runs_past}
use Rattle.refusal.specs.declared.Refusal.{Refusal}
use Rattle.refusal.specs.Outcome.{Outcome, answer, refused, ◌>>=◌, given}
use Rattle.refusal.specs.Rows.{Found, collect}
use Rattle.refusal.specs.Choose.{choose}
use Rattle.refusal.specs.Seek.{position, later}
use Rattle.refusal.specs.Exact.{Row, empty, first}
use Rattle.refusal.proofs.Laws.{tests, calls, bind_answer, bind_refused, passes, fails}
use Rattle.refusal.proofs.Rows.{bind_assoc}
use Rattle.refusal.proofs.Choose.{chosen_by, row_length}
use Rattle.word.specs.Words.{u16_at}
use Rattle.word.specs.declared.Endian.{Endian}
use Rattle.frame.specs.declared.Frame.{Frame}
use Rattle.handlers.specs.declared.HandlerJudge.{HandlerJudge}
use Rattle.handlers.specs.Handlers as H
use Rattle.handlers.specs.Rules.{HandlerRule}
use Rattle.handlers.proofs.Exactly.{handler_exact, handlers_exact}
use Rattle.code_units.specs.Units.{units_at}
use Rattle.code_heads.specs.declared.CodeHead.{CodeHead}
use Rattle.code_heads.specs.Heads.{code_head_at, body_size}
use Rattle.code_bodies.specs.declared.Try.{Try}
use Rattle.code_bodies.specs.Tries.{Run, step_at, begin, tries_at, linked, is_start, link_at, links_at, no_try, item_alone, kept_try, link_from, walk_at, kept_link}
use Rattle.code_bodies.specs.Code.{judge_of, list_at, Code, parts_at, body_at, code_at, KeptCode, kept, kept_code_at, linked_stage, listed_stage, parts_stage, body_stage}

-- what follows a test that holds, under what comes after
guarded : {A B : Type 0} (r : Refusal) (t : Bool) (o : Outcome A) (f : A → Outcome B) {q : Outcome B} → (o >>= f) ≡ q → (given t r o >>= f) ≡ given t r q
unfolding given ◌>>=◌
guarded r true o f e = e
guarded r false o f e = refl

-- ---- handlers gone over again find what their list has
abbrev pub from_number : ℕ → Option ℕ → Option ℕ
from_number n none = none
from_number n (some k) = some (n + k)

module _ (s : List ℕ) (j : HandlerJudge) (want : ℕ) where
  abbrev Reads : ℕ → H.Handler → ℕ → Type 0
  Reads p a q = H.handler_at s j p ≡ answer (record { item = a; next = q })

  start_list : {m p u : ℕ} {l : List H.Handler} (n : ℕ) → Row Reads m p l u → link_from s j want m p n ≡ linked j.item (from_number n (position (is_start want) l))
  unfolding link_from linked position
  start_list n empty = refl
  start_list n (first {a = a} {l = l} {t = t} h r) = bind_answer _ h ∙ go (is_start want a) (position (is_start want) l) (start_list (n + 1) r)
    where
      go : (b : Bool) (o : Option ℕ) {x : Outcome ℕ} → x ≡ linked j.item (from_number (n + 1) o) → cond b (answer n) x ≡ linked j.item (from_number n (cond b (some 0) (later o)))
      go true o e = let z : n ≡ n + 0 = omega arith in ap answer z
      go false none e = e
      go false (some k) e = let z : n + 1 + k ≡ n + suc k = omega arith in e ∙ ap answer z

  start_zero : {m p u : ℕ} {l : List H.Handler} → Row Reads m p l u → link_from s j want m p 0 ≡ linked j.item (position (is_start want) l)
  start_zero {l = l} r = start_list 0 r ∙ ap (linked j.item) (go (position (is_start want) l))
    where
      go : (o : Option ℕ) → from_number 0 o ≡ o
      go none = refl
      go (some k) = let z : 0 + k ≡ k = omega arith in ap some z

module _ (s : List ℕ) (j : HandlerJudge) where
  reads_row : {m p u : ℕ} {l : List H.Handler} → Row (HandlerRule s j) m p l u → Row (λ (p : ℕ) (a : H.Handler) (q : ℕ). H.handler_at s j p ≡ answer (record { item = a; next = q })) m p l u
  reads_row empty = empty
  reads_row (first {from = p} h r) = first ((handler_exact s j p).complete _ h) (reads_row r)

  -- the steps over tries, by the list and by going over it again
  walks : (o : Endian) (l : H.HandlerList) → H.handlers_at s j ≡ answer l → (p : ℕ) → link_at o s l.handlers j.item p ≡ walk_at o s j l.first (length l.handlers) p
  unfolding link_at walk_at
  walks o l e p =
      let rule = (handlers_exact s j).sound l e in
      let long = row_length rule.handlers in
      let row = reads_row rule.handlers in
      λ i. (sym (start_zero s j (u16_at o s (p + 6)) row) ∙ ap (λ (m : ℕ). link_from s j (u16_at o s (p + 6)) m l.first 0) (sym long)) i >>= λ (n : ℕ). answer (record { item = n; next = p + 8 })

-- ---- one try is kept, one link is kept
module _ {B : Type 0} (o : Endian) (s : List ℕ) where
  tries_by : (units item from n k : ℕ) (f : Found (List Try) Run → Outcome B) (g : Try → Outcome B) → ((r : Found (List Try) Run) → f r ≡ g (get_or r.item k no_try))
      → (tries_at o s units item from n >>= f) ≡ (kept_try o s units item from n k >>= g)
  unfolding tries_at kept_try
  tries_by units item from n k f g h =
      chosen_by n (step_at o s units item) no_try k (begin from) f (λ (r : Found Try Run). item_alone r >>= g) (λ r size. h r ∙ sym (bind_answer g refl))
      ∙ sym (bind_assoc (choose n (step_at o s units item) no_try k (begin from)) item_alone g)

  links_by : (j : HandlerJudge) (l : H.HandlerList) (from n k : ℕ) (f : Found (List ℕ) ℕ → Outcome B) (g : ℕ → Outcome B) → H.handlers_at s j ≡ answer l → ((r : Found (List ℕ) ℕ) → f r ≡ g (get_or r.item k 0))
      → (links_at o s l.handlers j.item from n >>= f) ≡ (kept_link o s j l.first (length l.handlers) from n k >>= g)
  unfolding links_at kept_link
  links_by j l from n k f g e h =
      (λ i. collect n (fun_ext (walks s j o l e) i) from >>= f)
      ∙ chosen_by n (walk_at o s j l.first (length l.handlers)) 0 k from f (λ (r : Found ℕ ℕ). item_alone r >>= g) (λ r size. h r ∙ sym (bind_answer g refl))
      ∙ sym (bind_assoc (choose n (walk_at o s j l.first (length l.handlers)) 0 k from) item_alone g)

-- ---- the parts
module _ (s : List ℕ) (f : Frame) (item : ℕ) (head : CodeHead) (from base t h k : ℕ) where
  abbrev whole : List Try → H.HandlerList → List ℕ → Code
  whole ts l ns = record { head = head; units = units_at f.order s (item + 16) head.units; tries = ts; handlers = l; links = ns; from = from; base = base }

  abbrev last_part : List Try → H.HandlerList → Outcome Code
  last_part ts l = links_at f.order s l.handlers item from head.tries >>= λ (n : Found (List ℕ) ℕ). answer (whole ts l n.item)

  with_tries : (ts : List Try) → ((H.handlers_at s (judge_of f item head base) >>= last_part ts) >>= kept t h k) ≡ linked_stage s f.order (judge_of f item head base) head (get_or ts t no_try) from t h k
  unfolding linked_stage H.kept_handlers_at
  with_tries ts =
      go (H.handlers_at s (judge_of f item head base)) refl
    where
      j : HandlerJudge
      j = judge_of f item head base

      go : (o : Outcome H.HandlerList) → H.handlers_at s (judge_of f item head base) ≡ o → ((o >>= last_part ts) >>= kept t h k)
          ≡ ((o >>= λ (l : H.HandlerList). answer (record { count = length l.handlers; brief = H.brief k (get_or l.handlers h H.nobody); first = l.first; end = l.end })) >>= λ (l : H.KeptHandlers).
          kept_link f.order s (judge_of f item head base) l.first l.count from head.tries t >>= λ (n : ℕ).
          answer (record { head = head; attempt = get_or ts t no_try; link = n; handlers = l.count; brief = l.brief; from = from; base = base; end = l.end }))
      go (answer l) e =
          ap (λ (x : Outcome Code). x >>= kept t h k) (bind_answer (last_part ts) refl)
          ∙ bind_assoc (links_at f.order s l.handlers item from head.tries) _ (kept t h k)
          ∙ links_by f.order s (judge_of f item head base) l from head.tries t _ _ e (λ r. bind_answer (kept t h k) refl)
          ∙ sym (bind_assoc (answer l) _ _ ∙ bind_answer _ refl ∙ bind_answer _ refl)
      go (refused r) e = bind_refused (kept t h k) (bind_refused _ refl) ∙ sym (bind_refused _ (bind_refused _ refl))

  without : (ts : List Try) → head.tries ≡ 0 → (last_part ts (record { first = base; handlers = []; end = base }) >>= kept t h k)
      ≡ answer (record { head = head; attempt = get_or ts t no_try; link = 0; handlers = 0; brief = H.brief k H.nobody; from = from; base = base; end = base })
  unfolding links_at collect
  without ts z =
      bind_answer (kept t h k) (bind_answer _ (ap (λ (n : ℕ). collect n (link_at f.order s [] item) from) z))

  lists_on : (b : Bool) (ts : List Try) → (b ≡ false → head.tries ≡ 0)
      → ((cond b (H.handlers_at s (judge_of f item head base)) (answer (record { first = base; handlers = []; end = base })) >>= last_part ts) >>= kept t h k)
      ≡ cond b (linked_stage s f.order (judge_of f item head base) head (get_or ts t no_try) from t h k)
      (answer (record { head = head; attempt = get_or ts t no_try; link = 0; handlers = 0; brief = H.brief k H.nobody; from = from; base = base; end = base }))
  lists_on true ts z = with_tries ts
  lists_on false ts z = ap (λ (x : Outcome Code). x >>= kept t h k) (bind_answer (last_part ts) refl) ∙ without ts (z refl)

  parts_whole : (parts_at s f item head from base >>= kept t h k) ≡ parts_stage s f.order (judge_of f item head base) head from t h k
  unfolding parts_at parts_stage list_at listed_stage
  parts_whole =
      bind_assoc (tries_at f.order s head.units item from head.tries) _ (kept t h k)
      ∙ tries_by f.order s head.units item from head.tries t _ _
      (λ r. lists_on (ltb 0 head.tries) r.item (λ e. let z = ltb-false 0 head.tries e in omega arith))

-- ---- the whole
module _ (s : List ℕ) (f : Frame) (item : ℕ) where
  kept_whole : (t h k : ℕ) → kept_code_at s f item t h k ≡ (code_head_at s f item >>= λ (head : CodeHead). body_stage s f item head t h k)
  unfolding kept_code_at code_at body_at body_stage
  kept_whole t h k =
      bind_assoc (code_head_at s f item) (body_at s f item) (kept t h k)
      ∙ λ i. code_head_at s f item >>= λ (head : CodeHead).
      guarded (runs_past item) (leb (item + (body_size head + 8 * head.tries)) (length s)) _ (kept t h k) (parts_whole s f item head (item + body_size head) (item + (body_size head + 8 * head.tries)) t h k) i

  pub kept_by : (t h k : ℕ) {y : Outcome KeptCode} → y ≡ (code_head_at s f item >>= λ (head : CodeHead). body_stage s f item head t h k) → y ≡ kept_code_at s f item t h k
  kept_by t h k e = e ∙ sym (kept_whole t h k)

-- ---- what follows the head
module _ (s : List ℕ) (f : Frame) (item : ℕ) (head : CodeHead) (t h k : ℕ) where
  too_long : {r : Refusal} → length s < item + (body_size head + 8 * head.tries) → r ≡ runs_past item → refused r ≡ body_stage s f item head t h k
  unfolding body_stage
  too_long p made = fails _ made (lt-leb (item + (body_size head + 8 * head.tries)) (length s) p)

  pub body_low : {r : Refusal} → length s < item → r ≡ runs_past item → refused r ≡ body_stage s f item head t h k
  body_low p made = too_long (omega arith) made

  module _ {body : ℕ} (e : body ≡ body_size head) (p : item ≤ length s) where
    pub body_short : {r : Refusal} → length s - item < body → r ≡ runs_past item → refused r ≡ body_stage s f item head t h k
    body_short q made = too_long (omega arith) made

    module _ (q : body ≤ length s - item) where
      pub body_long : {r : Refusal} → length s - item - body < 8 * head.tries → r ≡ runs_past item → refused r ≡ body_stage s f item head t h k
      body_long r made = too_long (omega arith) made

      pub body_by : {y : Outcome KeptCode} → 8 * head.tries ≤ length s - item - body
          → y ≡ parts_stage s f.order (record { types = f.types; units = head.units; item = item; base = item + body + 8 * head.tries }) head (item + body) t h k → y ≡ body_stage s f item head t h k
      unfolding body_stage
      body_by r g =
          let base : item + body + 8 * head.tries ≡ item + (body_size head + 8 * head.tries) = omega arith in
          g ∙ (λ i. parts_stage s f.order (judge_of f item head (base i)) head (item + e i) t h k)
          ∙ passes (runs_past item) (le-leb (item + (body_size head + 8 * head.tries)) (length s) (omega arith)) refl

-- ---- what this crate's functions are searched with
pub ruleset stage_laws = (kept_by, calls, tests, rules)

pub ruleset body_laws = (body_low, body_short, body_long, body_by, rules)
