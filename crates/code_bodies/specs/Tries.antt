-- The tries of a code item as readings. `s` ends where the data section ends, `item` is the place of the code item.
use Rattle.std.specs.Prelude.{ℕ, zero, suc, ◌+◌, Bool, cond, ◌&&◌, List, leb, eqb}
use Rattle.std.proofs.Math.Option.{Option, none, some}
use Rattle.refusal.specs.Refusals.{wrong_code}
use Rattle.refusal.specs.Outcome.{Outcome, answer, refused, ◌>>=◌, given}
use Rattle.refusal.specs.Rows.{Found, collect}
use Rattle.refusal.specs.Choose.{choose}
use Rattle.refusal.specs.Seek.{position}
use Rattle.word.specs.Words.{u16_at, u32_at}
use Rattle.word.specs.declared.Endian.{Endian}
use Rattle.handlers.specs.declared.HandlerJudge.{HandlerJudge}
use Rattle.handlers.specs.Handlers.{Handler, handler_at}
use Rattle.code_bodies.specs.declared.Try.{Try}

abbrev pub try_at : Endian → List ℕ → ℕ → Try
try_at o s p = record { start = u32_at o s p; count = u16_at o s (p + 4); handler = u16_at o s (p + 6) }

-- "A try lies within the instructions and starts at or after the previous try's end"
unfoldable pub try_allowed : ℕ → ℕ → Try → Bool
try_allowed units floor t = leb floor t.start && leb (t.start + t.count) units

-- where the going over tries stands: the next place, and the previous try's end
pub record Run : Type 0 where
  pub place : ℕ
  pub floor : ℕ

unfoldable pub judged : ℕ → ℕ → Run → Try → Outcome (Found Try Run)
judged units item r t = given (try_allowed units r.floor t) (wrong_code item) (answer (record { item = t; next = record { place = r.place + 8; floor = t.start + t.count } }))

unfoldable pub step_at : Endian → List ℕ → ℕ → ℕ → Run → Outcome (Found Try Run)
step_at o s units item r = judged units item r (try_at o s r.place)

abbrev pub begin : ℕ → Run
begin from = record { place = from; floor = 0 }

unfoldable pub tries_at : Endian → List ℕ → ℕ → ℕ → ℕ → ℕ → Outcome (Found (List Try) Run)
tries_at o s units item from count = collect count (step_at o s units item) (begin from)

-- "its handler offset is the start of a handler in the list": the number of the handler that begins there, or 17
unfoldable pub linked : ℕ → Option ℕ → Outcome ℕ
linked item (some n) = answer n
linked item none = refused (wrong_code item)

unfoldable pub is_start : ℕ → Handler → Bool
is_start want h = eqb h.offset want

unfoldable pub link_at : Endian → List ℕ → List Handler → ℕ → ℕ → Outcome (Found ℕ ℕ)
link_at o s handlers item p = do
  n ← linked item (position (is_start (u16_at o s (p + 6))) handlers)
  answer (record { item = n; next = p + 8 })

unfoldable pub links_at : Endian → List ℕ → List Handler → ℕ → ℕ → ℕ → Outcome (Found (List ℕ) ℕ)
links_at o s handlers item from count = collect count (link_at o s handlers item) from

-- ---- stages of the code, which keeps one try, and one handler's number
abbrev pub no_try : Try
no_try = record { start = 0; count = 0; handler = 0 }

abbrev pub item_alone : {A S : Type 0} → Found A S → Outcome A
item_alone r = answer r.item

unfoldable pub kept_try : Endian → List ℕ → ℕ → ℕ → ℕ → ℕ → ℕ → Outcome Try
kept_try o s units item from count k = choose count (step_at o s units item) no_try k (begin from) >>= item_alone

-- the handlers are gone over again: `left` of them from p on, the first being number n
unfoldable pub link_from : List ℕ → HandlerJudge → ℕ → ℕ → ℕ → ℕ → Outcome ℕ
link_from s j want zero p n = refused (wrong_code j.item)
link_from s j want (suc left) p n = handler_at s j p >>= λ h. cond (is_start want h.item) (answer n) (link_from s j want left h.next (n + 1))

unfoldable pub walk_at : Endian → List ℕ → HandlerJudge → ℕ → ℕ → ℕ → Outcome (Found ℕ ℕ)
walk_at o s j first handlers p = do
  n ← link_from s j (u16_at o s (p + 6)) handlers first 0
  answer (record { item = n; next = p + 8 })

unfoldable pub kept_link : Endian → List ℕ → HandlerJudge → ℕ → ℕ → ℕ → ℕ → ℕ → Outcome ℕ
kept_link o s j first handlers from count k = choose count (walk_at o s j first handlers) 0 k from >>= item_alone
